-- Digits that are written from the last to the first: what is left of a number and what stands already are its text.
use mathlib.Core.Path.{◌≡◌, refl, sym}
use mathlib.Core.List.{List, [], ◌∷◌, ◌++◌}
use Prim.Native.Nat.{ℕ, zero, suc, ◌*◌, ◌/◌, ◌%◌, ◌^◌, ◌≤◌, ◌<◌}
use native.Mathlib.Nat.{div-lt_iff_lt-mul, le_of_suc-le-suc, mul-le-mul_left, not-suc-le-zero, pow-suc, pow-zero}
use native.Mathlib.Omega.{arith}
use borrow.Author.Tests.{eq-eqb, ne_eqb}
use lib.ListN.{length, drop, set}
use lib.Seq.{append_snoc}
use Rattle.text.specs.Text.{glyph_of, last_of, hex_of}

-- ── numerals ──

-- no digits are left of 0
pub last_none : (base k n : ℕ) → n ≡ 0 → last_of base k n ≡ []
unfolding last_of
last_none base zero n e = refl
last_none base (suc k) n e = rw (eq-eqb n 0 e)

last_more : (base k n : ℕ) → 0 < n → last_of base (suc k) n ≡ last_of base k (n / base) ++ (glyph_of (n % base) ∷ [])
unfolding last_of
last_more base k n h = rw (ne_eqb n 0 (λ (z : n ≡ 0). omega arith))

-- a digit that was last comes before those that are there
pub last_moved : (base k j rest g : ℕ) (t : List ℕ) → j ≡ suc k → 0 < rest → g ≡ glyph_of (rest % base)
    → last_of base k (rest / base) ++ (g ∷ t) ≡ last_of base j rest ++ t
last_moved base k j rest g t d more e =
    rw (d, e, last_more base k rest more) (sym (append_snoc (last_of base k (rest / base)) (glyph_of (rest % base)) t))

-- k + 1 decimal digits are enough for a number, so k are for what is left of it in a base from ten on
pub fewer : (base k j n : ℕ) → j ≡ suc k → 10 ≤ base → n < 10 ^ j → n / base < 10 ^ k
fewer base k j n d b h =
    let room : 10 ^ k * 10 ≤ 10 ^ k * base = mul-le-mul_left (10 ^ k) b in
    let less : n < 10 ^ k * 10 = rw (← (pow-suc 10 k), ← d) h in
    (div-lt_iff_lt-mul (omega arith)).1 (omega arith)

-- none are enough for 0 alone
pub some : (k n : ℕ) → 0 < n → n < 10 ^ k → 0 < k
some zero n h l = omega (arith, rw pow-zero at l)
some (suc k) n h l = omega arith

-- ── columns ──

-- a byte is stored before those that are there
stored : (i g : ℕ) (t : List ℕ) → i < length t → drop i (set t i g) ≡ g ∷ drop (suc i) t
stored i g [] h = absurd (not-suc-le-zero h)
stored zero g (x ∷ xs) h = refl
stored (suc i) g (x ∷ xs) h = stored i g xs (le_of_suc-le-suc h)

-- the digit in column i comes before those that are there
pub hex_moved : (i j rest g : ℕ) (t : List ℕ) → j ≡ suc i → i < length t → g ≡ glyph_of (rest % 16)
    → hex_of i (rest / 16) ++ drop i (set t i g) ≡ hex_of j rest ++ drop j t
unfolding hex_of
hex_moved i j rest g t d h e =
    rw (stored i g t h, d, e) (sym (append_snoc (hex_of i (rest / 16)) (glyph_of (rest % 16)) (drop (suc i) t)))
