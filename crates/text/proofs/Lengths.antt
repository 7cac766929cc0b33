-- How long the texts are at most.
use mathlib.Core.Path.{◌≡◌, refl}
use mathlib.Core.Bool.{Bool, true, false, cond}
use mathlib.Core.List.{List, [], ◌∷◌, ◌++◌}
use Prim.Native.Nat.{ℕ, zero, suc, ◌/◌, ◌%◌, ◌^◌, ◌≤◌, ◌<◌}
use native.Mathlib.Nat.{div-lt_iff_lt-mul, pow-zero, pow-suc}
use native.Mathlib.Omega.{arith}
use borrow.Author.Tests.{eq-eqb}
use lib.Dec.{eqb}
use lib.IntN.{ℤ, pos, negsuc, nat_abs}
use lib.ListN.{length, length-append}
use Rattle.text.specs.Text.{glyph_of, last_of, numeral_of, decimal_of, address_of, hex_of, before_zero}

-- ── numerals ──

-- one digit more than l where the test fails, else none
cond_most : (t : Bool) (l : List ℕ) (g k : ℕ) → (t ≡ false → length l ≤ k) → length (cond t [] (l ++ (g ∷ []))) ≤ suc k
cond_most true l g k h = omega arith
cond_most false l g k h = let e = h refl in simp length-append (omega arith)

-- as many digits as are asked for, at most
last_most : (base k n : ℕ) → length (last_of base k n) ≤ k
unfolding last_of
last_most base zero n = omega arith
last_most base (suc k) n = cond_most (eqb n 0) (last_of base k (n / base)) (glyph_of (n % base)) k (λ e. last_most base k (n / base))

pub numeral_most : (base n : ℕ) → length (numeral_of base n) ≤ 20
unfolding numeral_of
numeral_most base n = simp length-append (omega (arith, last_most base 19 (n / base)))

-- k digits hold a number below base ^ k
module _ (base : ℕ) (some : 0 < base) where
  last_short : (k f n : ℕ) → n < base ^ k → length (last_of base f n) ≤ k
  unfolding last_of
  last_short k zero n h = omega arith
  last_short zero (suc f) n h = rw (eq-eqb n 0 (omega (arith, pow-zero base))) (omega arith)
  last_short (suc k) (suc f) n h =
      let less : n / base < base ^ k = (div-lt_iff_lt-mul some).1 (rw pow-suc at h) in
      cond_most (eqb n 0) (last_of base f (n / base)) (glyph_of (n % base)) k (λ e. last_short k f (n / base) less)

  numeral_short : (k n : ℕ) → n / base < base ^ k → length (numeral_of base n) ≤ suc k
  unfolding numeral_of
  numeral_short k n h = simp length-append (omega (arith, last_short k 19 (n / base) h))

pub decimal_short : (z : ℤ) → nat_abs z ≤ 2 ^ 63 → length (decimal_of z) ≤ 20
unfolding decimal_of
decimal_short (pos n) h = numeral_most 10 n
-- nineteen digits hold how far it is from 0
decimal_short (negsuc n) h = omega (arith, numeral_short 10 (omega arith) 18 (suc n) (omega arith))

-- sixteen digits hold an address
pub address_short : (a : ℕ) → a < 2 ^ 64 → length (address_of a) ≤ 18
unfolding address_of
address_short a h = omega (arith, numeral_short 16 (omega arith) 15 a (omega arith))

-- ── columns and names ──

pub hex_long : (k n : ℕ) → length (hex_of k n) ≡ k
unfolding hex_of
hex_long zero n = refl
hex_long (suc k) n = simp length-append (omega (arith, hex_long k (n / 16)))

pub name_most : (l : List ℕ) → length (before_zero l) ≤ length l
unfolding before_zero
name_most [] = omega arith
name_most (b ∷ bs) = go (eqb b 0) (before_zero bs) (name_most bs)
  where
    go : (t : Bool) (p : List ℕ) → length p ≤ length bs → length (cond t [] (b ∷ p)) ≤ suc (length bs)
    go true p h = omega arith
    go false p h = omega arith
