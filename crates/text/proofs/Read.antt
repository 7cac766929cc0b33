-- A number in columns of hex digits: digit by digit, and how large it is at most.
use mathlib.Core.Path.{◌≡◌, refl, subst, ◌∙◌}
use mathlib.Core.List.{List, [], ◌∷◌, ◌++◌}
use Prim.Native.Nat.{ℕ, suc, ◌+◌, ◌*◌, ◌^◌, ◌<◌, ◌≤◌}
use native.Mathlib.Nat.{add-zero, add-suc, zero-add, suc-add, pow-succ', pow-le-pow_right}
use native.Mathlib.Omega.{arith}
use native.Mathlib.Numerals.{add-one}
use lib.ListN.{length, take, get_or}
use lib.Seq.{take-suc, length-take-le}
use Rattle.text.specs.Read.{digit_of, hex_after}

-- ── a digit ──

pub digit_below : (b : ℕ) → digit_of b < 16
unfolding digit_of
digit_below b = grind arith

-- ── digits one after the other ──

pub after_none : (n : ℕ) → hex_after n [] ≡ n
unfolding hex_after
after_none n = refl

after_last : (l : List ℕ) (n b : ℕ) → hex_after n (l ++ (b ∷ [])) ≡ 16 * hex_after n l + digit_of b
unfolding hex_after
after_last [] n b = refl
after_last (x ∷ xs) n b = after_last xs (16 * n + digit_of x) b

-- k digits are below 16 ^ k
after_below : (l : List ℕ) (n k : ℕ) → n < 16 ^ k → hex_after n l < 16 ^ (k + length l)
unfolding hex_after
after_below [] n k h = rw add-zero h
after_below (b ∷ bs) n k h =
    let d = digit_below b in
    let step : 16 * n + digit_of b < 16 ^ suc k = rw (pow-succ' 16 k) (omega arith) in
    rw (add-suc k (length bs), ← (suc-add k (length bs))) (after_below bs (16 * n + digit_of b) (suc k) step)

module _ (columns : List ℕ) (i : ℕ) (h : i < length columns) where
  -- column i
  pub one_more : hex_after 0 (take (i + 1) columns) ≡ 16 * hex_after 0 (take i columns) + digit_of (get_or columns i 0)
  one_more = rw (add-one i, take-suc columns i 0 h) (after_last (take i columns) 0 (get_or columns i 0))

  -- there is room for one digit more
  pub room_for : i < 16 → 16 * hex_after 0 (take i columns) + 15 < 2 ^ 64
  room_for l =
      let e : length (take i columns) ≡ i = length-take-le i columns (omega arith) in
      let k : hex_after 0 (take i columns) < 16 ^ i = subst (λ (n : ℕ). hex_after 0 (take i columns) < 16 ^ n) (zero-add _ ∙ e) (after_below (take i columns) 0 0 (omega arith)) in
      let p : 16 ^ i ≤ 16 ^ 15 = pow-le-pow_right {n = 16} (omega arith) {i = i} {j = 15} (omega arith) in
      omega arith

-- what a loop over columns needs
pub ruleset digits = (after_none, one_more, room_for, digit_below)
