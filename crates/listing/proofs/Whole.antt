-- All lines are the listing, and which line is which.
use Prim.Native.Nat.{ℕ, zero, suc, ◌+◌, ◌<◌, ◌≤◌}
use mathlib.Core.Path.{◌≡◌, refl, sym, ap, ◌∙◌}
use mathlib.Core.Bool.{Bool, true, false, cond}
use mathlib.Core.List.{List, [], ◌++◌, append_assoc, append-nil}
use native.Mathlib.Numerals.{add-one}
use native.Mathlib.Omega.{arith}
use lib.Dec.{eqb}
use lib.ListN.{length, get_or, length-append}
use lib.Seq.{get_or-append-add}
use Rattle.section.specs.Section.{checked, count_in, count_of}
use Rattle.pages.specs.Lines.{lines_from}
use Rattle.pages.proofs.Runs.{lines_shift}
use Rattle.listing.specs.Swept.{word_count, sum_from, head_line, line_in, total_line, refused_line}
use Rattle.listing.specs.Swept.{sections_from, swept_of}
use Rattle.listing.specs.Piece.{last_line, line_at, lines_in}
use Rattle.listing.specs.Theorems.{lines_before, all_lines}
use Rattle.listing.proofs.Sums.{sum_add}
use Rattle.pages.proofs.Rows.{joined, joined_append, rows_from, rows_joined, rows_long, row_at}
use Rattle.listing.proofs.Ranges.{last_is, last_one, head_at, word_at, lines_are}
use Rattle.listing.proofs.Rest.{parts_from, all_rows}

module _ (f : List ℕ) where
  -- ── their bytes ──

  -- a section: its head, then the lines of its words
  section_bytes : (n : ℕ) → n < count_of f →
      joined (rows_from (line_at f n) (lines_in f n) 0) ≡ head_line f n ++ lines_from (line_in f n) (word_count f n) 0
  unfolding lines_from
  section_bytes n h =
      rows_joined (line_at f n) (lines_in f n) 0
      ∙ rw (lines_are f n h, add-one (word_count f n), head_at f n h)
      (ap (λ (l : List ℕ). head_line f n ++ l)
      (lines_shift (line_in f n) (line_at f n) (word_at f n h) (word_count f n) 0))

  -- the last one
  last_bytes : joined (parts_from f 1 (count_of f)) ≡ last_line f
  unfolding parts_from joined rows_from
  last_bytes = rw (last_one f, last_is f 0) (append-nil (last_line f))

  parts_bytes : (k n : ℕ) → n + k ≡ count_of f → joined (parts_from f (suc k) n) ≡ sections_from f k n ++ last_line f
  unfolding parts_from sections_from
  parts_bytes zero n e = let d : n ≡ count_of f = omega arith in rw d last_bytes
  parts_bytes (suc k) n e =
      joined_append (rows_from (line_at f n) (lines_in f n) 0) (parts_from f (suc k) (n + 1))
      ∙ rw (section_bytes n (omega arith), parts_bytes k (n + 1) (omega arith))
      (sym
      (append_assoc (head_line f n ++ lines_from (line_in f n) (word_count f n) 0) (sections_from f k (n + 1))
      (last_line f)))

  -- a bad file has no sections, and its number is its last line
  swept_is : swept_of f ≡ sections_from f (count_of f) 0 ++ last_line f
  unfolding swept_of last_line count_of sections_from
  swept_is = go (eqb (checked f) 0)
    where
      go : (b : Bool) → cond b (sections_from f (cond b (count_in f) 0) 0 ++ total_line f) (refused_line f) ≡
          sections_from f (cond b (count_in f) 0) 0 ++ cond b (total_line f) (refused_line f)
      go true = refl
      go false = refl

  pub all_bytes : joined (all_rows f) ≡ swept_of f
  all_bytes = rw (add-one (count_of f)) (parts_bytes (count_of f) 0 (omega arith)) ∙ sym swept_is

  -- ── their number ──

  lines_sum : (k n : ℕ) → n + k ≤ count_of f → sum_from (lines_in f) k n ≡ sum_from (word_count f) k n + k
  unfolding sum_from
  lines_sum zero n h = refl
  lines_sum (suc k) n h = omega (arith, lines_are f n (omega arith), lines_sum k (n + 1) (omega arith))

  pub before_is : (n : ℕ) → n ≤ count_of f → sum_from (lines_in f) n 0 ≡ lines_before f n
  unfolding lines_before
  before_is n h = lines_sum n 0 (omega arith)

  parts_long : (k n : ℕ) → length (parts_from f k n) ≡ sum_from (lines_in f) k n
  unfolding parts_from sum_from
  parts_long zero n = refl
  parts_long (suc k) n =
      simp length-append (omega (arith, rows_long (line_at f n) (lines_in f n) 0, parts_long k (n + 1)))

  pub all_long : length (all_rows f) ≡ all_lines f
  unfolding sum_from
  all_long =
      let z : 0 + count_of f ≡ count_of f = omega arith in
      parts_long (count_of f + 1) 0 ∙ sum_add (lines_in f) (count_of f) 1 0
      ∙ rw z (omega (arith, before_is (count_of f) (omega arith), last_one f))

  -- ── each by its place ──

  -- past the lines of section m
  place : (m n j : ℕ) →
      sum_from (lines_in f) (suc n) m + j ≡
      length (rows_from (line_at f m) (lines_in f m) 0) + (sum_from (lines_in f) n (m + 1) + j)
  unfolding sum_from
  place m n j = omega (arith, rows_long (line_at f m) (lines_in f m) 0)

  part_at : (k m n j : ℕ) → n < k → j < lines_in f (m + n) →
      get_or (parts_from f k m) (sum_from (lines_in f) n m + j) [] ≡ line_at f (m + n) j
  unfolding parts_from sum_from
  part_at zero m n j h g = absurd (omega arith)
  part_at (suc k) m zero j h g =
      let e : m + 0 ≡ m = omega arith in
      let z : 0 + j ≡ j = omega arith in
      rw (e, z) (row_at (line_at f m) (lines_in f m) 0 j (parts_from f k (m + 1)) (rw e at g) ∙ rw z)
  part_at (suc k) m (suc n) j h g =
      let e : m + suc n ≡ m + 1 + n = omega arith in
      ap (λ (i : ℕ). get_or (rows_from (line_at f m) (lines_in f m) 0 ++ parts_from f k (m + 1)) i []) (place m n j)
      ∙ get_or-append-add (rows_from (line_at f m) (lines_in f m) 0) (parts_from f k (m + 1))
      (sum_from (lines_in f) n (m + 1) + j) []
      ∙ rw e (part_at k (m + 1) n j (omega arith) (rw e at g))

  pub row_is : (n j : ℕ) → n ≤ count_of f → j < lines_in f n →
      get_or (all_rows f) (lines_before f n + j) [] ≡ line_at f n j
  row_is n j h g =
      let z : 0 + n ≡ n = omega arith in
      rw (← before_is n h) (rw z at (part_at (count_of f + 1) 0 n j (omega arith) (rw z g)))
