-- A line ends at its newline: which texts have none, and the lines of a text that begins with a line.
use Prim.Native.Nat.{ℕ, zero, suc, ◌/◌, ◌%◌, ◌<◌}
use mathlib.Core.Path.{◌≡◌, refl, ap}
use mathlib.Core.Bool.{Bool, true, false, not, cond, ◌&&◌, false≢true}
use mathlib.Core.List.{List, [], ◌∷◌, ◌++◌}
use native.Mathlib.Omega.{arith}
use borrow.Author.Tests.{ne_eqb}
use lib.Dec.{eqb, ltb}
use lib.IntN.{ℤ, pos, negsuc}
use Rattle.laws.proofs.Tests.{either}
use Rattle.text.specs.Text.{glyph_of, last_of, numeral_of, decimal_of, address_of, hex_of}
use Rattle.text.specs.Text.{newline, without, longer, lines_of, OneLine}

-- ── texts that have no such byte ──

pub without_append : (c : ℕ) (a b : List ℕ) → without c (a ++ b) ≡ (without c a && without c b)
unfolding without
without_append c [] b = refl
without_append c (x ∷ a) b = go (eqb x c) (without_append c a b)
  where
    go : (t : Bool) → without c (a ++ b) ≡ (without c a && without c b) →
        (not t && without c (a ++ b)) ≡ ((not t && without c a) && without c b)
    go true e = refl
    go false e = e

-- digits and the minus sign are not bytes below it: no newline, space, bracket or comma
module _ (c : ℕ) (low : c < 45) where
  glyph_other : (d : ℕ) → glyph_of d ≡ c → ⊥
  glyph_other d = either (λ (g : ℕ). g ≡ c → ⊥) (ltb d 10) (λ e. omega arith) (λ e. omega arith)

  -- one digit more
  then_glyph : (l : List ℕ) (d : ℕ) → without c l ≡ true → without c (l ++ (glyph_of d ∷ [])) ≡ true
  unfolding without
  then_glyph l d p = rw (without_append c l (glyph_of d ∷ []), p, ne_eqb (glyph_of d) c (glyph_other d))

  last_without : (base k n : ℕ) → without c (last_of base k n) ≡ true
  unfolding last_of without
  last_without base zero n = refl
  last_without base (suc k) n =
      either (λ (l : List ℕ). without c l ≡ true) (eqb n 0) refl
      (then_glyph (last_of base k (n / base)) (n % base) (last_without base k (n / base)))

  pub numeral_without : (base n : ℕ) → without c (numeral_of base n) ≡ true
  unfolding numeral_of
  numeral_without base n = then_glyph (last_of base 19 (n / base)) (n % base) (last_without base 19 (n / base))

  pub decimal_without : (z : ℤ) → without c (decimal_of z) ≡ true
  unfolding decimal_of without
  decimal_without (pos n) = numeral_without 10 n
  decimal_without (negsuc n) = rw (ne_eqb 45 c (λ e. omega arith)) (numeral_without 10 (suc n))

  pub address_without : (a : ℕ) → without c (address_of a) ≡ true
  unfolding address_of without
  address_without a =
      rw (ne_eqb 48 c (λ e. omega arith), ne_eqb 120 c (λ e. omega arith)) (numeral_without 16 a)

  pub hex_without : (k n : ℕ) → without c (hex_of k n) ≡ true
  unfolding hex_of without
  hex_without zero n = refl
  hex_without (suc k) n = then_glyph (hex_of k (n / 16)) (n % 16) (hex_without k (n / 16))

-- ── a line before others ──

cut_at : (t rest : List ℕ) → without newline t ≡ true →
    lines_of (t ++ (newline ∷ []) ++ rest) ≡ (t ++ (newline ∷ [])) ∷ lines_of rest
unfolding lines_of without
cut_at [] rest p = refl
cut_at (b ∷ t) rest p = go (eqb b newline) p (cut_at t rest)
  where
    all : List ℕ
    all = t ++ (newline ∷ []) ++ rest

    go : (n : Bool) → (not n && without newline t) ≡ true →
        (without newline t ≡ true → lines_of all ≡ (t ++ (newline ∷ [])) ∷ lines_of rest) →
        cond n ((newline ∷ []) ∷ lines_of all) (longer b (lines_of all)) ≡ (b ∷ (t ++ (newline ∷ []))) ∷ lines_of rest
    go true q e = absurd (false≢true q)
    go false q e = ap (longer b) (e q)

-- THE LAW: a line and more is that line and the lines of what is more
pub cut : {l : List ℕ} → OneLine l → (rest : List ℕ) → lines_of (l ++ rest) ≡ l ∷ lines_of rest
cut o rest = rw o.is (cut_at o.text rest o.clear)
