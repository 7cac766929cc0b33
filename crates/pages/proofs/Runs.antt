-- How many of a row of lines fit, over any lines: one line more, and how far they go.
use Prim.Native.Nat.{ℕ, zero, suc, ◌+◌, ◌*◌, ◌-◌, ◌<◌, ◌≤◌}
use mathlib.Core.Path.{◌≡◌, refl, ap}
use mathlib.Core.List.{List, [], ◌++◌}
use native.Mathlib.Nat.{mul-suc}
use native.Mathlib.Numerals.{add-one}
use native.Mathlib.Decide.{dec_le}
use native.Mathlib.Omega.{arith}
use borrow.Author.Tests.{le-leb, lt-leb}
use lib.ListN.{length, length-append}
use Rattle.pages.specs.Lines.{lines_from, fitting}

-- ── one line more ──

-- the lines that fit
abbrev pub run : (ℕ → List ℕ) → ℕ → ℕ → ℕ → List ℕ
run line k n room = lines_from line (fitting line k n room) n

module _ (line : ℕ → List ℕ) (k n room : ℕ) where
  pub one_fits : length (line n) ≤ room →
      fitting line (suc k) n room ≡ fitting line k (n + 1) (room - length (line n)) + 1
  unfolding fitting
  one_fits h = rw (le-leb (length (line n)) room h)

  pub none_fits : room < length (line n) → fitting line (suc k) n room ≡ 0
  unfolding fitting
  none_fits h = rw (lt-leb (length (line n)) room h)

  pub run_more : length (line n) ≤ room →
      run line (suc k) n room ≡ line n ++ run line k (n + 1) (room - length (line n))
  unfolding lines_from
  run_more h = rw (one_fits h, add-one (fitting line k (n + 1) (room - length (line n))))

pub no_lines : (line : ℕ → List ℕ) (m n : ℕ) → m ≡ 0 → lines_from line m n ≡ []
unfolding lines_from
no_lines line m n e = rw e

-- ── under other numbers ──

-- the same lines, each under the number before
module _ (line line' : ℕ → List ℕ) (same : (i : ℕ) → line' (i + 1) ≡ line i) where
  pub lines_shift : (k n : ℕ) → lines_from line' k (n + 1) ≡ lines_from line k n
  unfolding lines_from
  lines_shift zero n = refl
  lines_shift (suc k) n = rw (same n) (ap (λ (l : List ℕ). line n ++ l) (lines_shift k (n + 1)))

  pub fitting_shift : (k n room : ℕ) → fitting line' k (n + 1) room ≡ fitting line k n room
  unfolding fitting
  fitting_shift zero n room = refl
  fitting_shift (suc k) n room = rw (same n, fitting_shift k (n + 1) (room - length (line n)))

-- ── how far they go ──

module _ (line : ℕ → List ℕ) where
  pub run_fits : (k n room : ℕ) → length (run line k n room) ≤ room
  unfolding fitting lines_from
  run_fits zero n room = omega arith
  run_fits (suc k) n room = go (dec_le (length (line n)) room) (run_fits k (n + 1) (room - length (line n)))
    where
      go : Dec (length (line n) ≤ room) →
          length (run line k (n + 1) (room - length (line n))) ≤ room - length (line n) →
          length (run line (suc k) n room) ≤ room
      go (yes h) r = rw (run_more line k n room h) (simp length-append (omega arith))
      go (no h) r =
          rw (no_lines line (fitting line (suc k) n room) n (none_fits line k n room (omega arith))) (omega arith)

  pub run_most : (k n room : ℕ) → fitting line k n room ≤ k
  unfolding fitting
  run_most zero n room = omega arith
  run_most (suc k) n room = go (dec_le (length (line n)) room) (run_most k (n + 1) (room - length (line n)))
    where
      go : Dec (length (line n) ≤ room) → fitting line k (n + 1) (room - length (line n)) ≤ k →
          fitting line (suc k) n room ≤ suc k
      go (yes h) r = rw (one_fits line k n room h) (omega arith)
      go (no h) r = rw (none_fits line k n room (omega arith)) (omega arith)

  pub run_longest : (k n room m : ℕ) → m ≤ k → length (lines_from line m n) ≤ room → m ≤ fitting line k n room
  unfolding lines_from
  run_longest k n room zero h l = omega arith
  run_longest zero n room (suc m) h l = absurd (omega arith)
  run_longest (suc k) n room (suc m) h l =
      let e : length (line n) + length (lines_from line m (n + 1)) ≤ room = simp length-append at l in
      rw (one_fits line k n room (omega arith))
      (omega (arith, run_longest k (n + 1) (room - length (line n)) m (omega arith) (omega arith)))

  -- room for the longest line as often as there are lines is room for all of them
  pub run_all : (most : ℕ) → ((i : ℕ) → length (line i) ≤ most) → (k n room : ℕ) → most * k ≤ room →
      fitting line k n room ≡ k
  unfolding fitting
  run_all most short zero n room h = refl
  run_all most short (suc k) n room h =
      let e : most * suc k ≡ most * k + most = mul-suc most k in
      rw (one_fits line k n room (omega (arith, short n)))
      (omega (arith, run_all most short k (n + 1) (room - length (line n)) (omega (arith, short n))))
