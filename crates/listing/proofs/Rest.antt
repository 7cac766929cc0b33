-- What is left of the listing at a cursor: a piece and what is left after it are what was left before.
use Prim.Native.Nat.{ℕ, zero, suc, ◌+◌, ◌-◌, ◌<◌, ◌≤◌}
use mathlib.Core.Path.{◌≡◌, sym, ap, ◌∙◌}
use mathlib.Core.Bool.{cond}
use mathlib.Core.List.{List, [], ◌++◌, append_assoc}
use native.Mathlib.Decide.{dec_le, dec_lt, ℕ_discrete}
use native.Mathlib.Omega.{arith}
use borrow.Author.Tests.{lt-ltb, le-ltb}
use lib.Dec.{ltb}
use lib.ListN.{length, length-append}
use Rattle.section.specs.Section.{count_of}
use Rattle.listing.specs.declared.Cursor.{Cursor}
use Rattle.listing.specs.Piece.{line_at, lines_in, cursor, onward, piece_lines, piece_bytes, next_of}
use Rattle.pages.proofs.Rows.{joined, joined_append, rows_from, rows_joined, rows_long, rows_add}
use Rattle.listing.proofs.Ranges.{last_one, lines_are, lines_within}
use Rattle.listing.proofs.Pieces.{most, no_line, stays, goes}

module _ (f : List ℕ) where
  -- the lines of k sections from section n on, the last line of all being one more
  unfoldable pub parts_from : ℕ → ℕ → List (List ℕ)
  parts_from zero n = []
  parts_from (suc k) n = rows_from (line_at f n) (lines_in f n) 0 ++ parts_from k (n + 1)

  abbrev pub all_rows : List (List ℕ)
  all_rows = parts_from (count_of f + 1) 0

  -- there is a line in every section, and in the place of one more
  pub some_lines : (n : ℕ) → n ≤ count_of f → 0 < lines_in f n
  some_lines n h = go (dec_lt n (count_of f))
    where
      go : Dec (n < count_of f) → 0 < lines_in f n
      go (yes l) = omega (arith, lines_are f n l)
      go (no l) = let e : n ≡ count_of f = omega arith in rw e (omega (arith, last_one f))

  -- ── what is left ──

  unfoldable pub rest_rows : Cursor → List (List ℕ)
  rest_rows c =
      cond (ltb c.line (lines_in f c.section))
      (rows_from (line_at f c.section) (lines_in f c.section - c.line) c.line
      ++ parts_from (count_of f - c.section) (c.section + 1)) []

  pub rest_none : (c : Cursor) → lines_in f c.section ≤ c.line → rest_rows c ≡ []
  unfolding rest_rows
  rest_none c h = rw (le-ltb c.line (lines_in f c.section) h)

  pub rest_some : (c : Cursor) → c.line < lines_in f c.section →
      rest_rows c ≡
      rows_from (line_at f c.section) (lines_in f c.section - c.line) c.line
      ++ parts_from (count_of f - c.section) (c.section + 1)
  unfolding rest_rows
  rest_some c h = rw (lt-ltb c.line (lines_in f c.section) h)

  -- at the first line of a section
  pub rest_first : (n : ℕ) → n ≤ count_of f + 1 → rest_rows (cursor n 0) ≡ parts_from (count_of f + 1 - n) n
  unfolding parts_from
  rest_first n h = go (dec_le n (count_of f))
    where
      go : Dec (n ≤ count_of f) → rest_rows (cursor n 0) ≡ parts_from (count_of f + 1 - n) n
      go (yes l) =
          let e : count_of f + 1 - n ≡ suc (count_of f - n) = omega arith in
          let z : lines_in f n - 0 ≡ lines_in f n = omega arith in
          rest_some (cursor n 0) (some_lines n l) ∙ rw (e, z)
      go (no l) =
          let e : count_of f + 1 - n ≡ 0 = omega arith in
          rest_none (cursor n 0) (none (dec_le (lines_in f n) 0)) ∙ rw e
        where
          none : Dec (lines_in f n ≤ 0) → lines_in f n ≤ 0
          none (yes z) = z
          none (no z) = absurd (l (lines_within f n 0 (omega arith)))

  -- at the start
  pub rest_all : rest_rows (cursor 0 0) ≡ all_rows
  rest_all =
      let e : count_of f + 1 - 0 ≡ count_of f + 1 = omega arith in
      rest_first 0 (omega arith) ∙ ap (λ (k : ℕ). parts_from k 0) e

  -- ── a piece ──

  module _ (room : ℕ) (c : Cursor) where
    abbrev n : ℕ
    n = c.section

    abbrev k : ℕ
    k = piece_lines f room c

    pub piece_rows : List (List ℕ)
    piece_rows = rows_from (line_at f n) k c.line

    pub rows_bytes : joined piece_rows ≡ piece_bytes f room c
    unfolding piece_rows piece_bytes
    rows_bytes = rows_joined (line_at f n) k c.line

    pub rows_count : length piece_rows ≡ k
    unfolding piece_rows
    rows_count = rows_long (line_at f n) k c.line

    -- after some lines
    onward_rest : c.line < lines_in f n → piece_rows ++ rest_rows (onward c k (lines_in f n)) ≡ rest_rows c
    unfolding piece_rows
    onward_rest h = go (dec_lt (c.line + k) (lines_in f n))
      where
        rows : ℕ → ℕ → List (List ℕ)
        rows = rows_from (line_at f n)

        after : List (List ℕ)
        after = parts_from (count_of f - n) (n + 1)

        split : rows (lines_in f n - c.line) c.line ≡
            rows k c.line ++ rows (lines_in f n - (c.line + k)) (c.line + k)
        split =
            let e : lines_in f n - c.line ≡ k + (lines_in f n - (c.line + k)) = omega (arith, most f room c) in
            ap (λ (m : ℕ). rows m c.line) e ∙ rows_add (line_at f n) k (lines_in f n - (c.line + k)) c.line

        go : Dec (c.line + k < lines_in f n) → rows k c.line ++ rest_rows (onward c k (lines_in f n)) ≡ rest_rows c
        go (yes l) =
            rw (lt-ltb (c.line + k) (lines_in f n) l, rest_some (cursor n (c.line + k)) l, rest_some c h, split)
            (sym (append_assoc (rows k c.line) (rows (lines_in f n - (c.line + k)) (c.line + k)) after))
        go (no l) =
            let e : lines_in f n - c.line ≡ k = omega (arith, most f room c) in
            let d : count_of f + 1 - (n + 1) ≡ count_of f - n = omega arith in
            rw (
              le-ltb (c.line + k) (lines_in f n) (omega arith),
              rest_first (n + 1) (omega (arith, lines_within f n c.line h)),
              rest_some c h,
              e,
              d,
            )

    -- THE LAW: nothing is lost between two pieces, and nothing is written twice
    pub piece_rest : piece_rows ++ rest_rows (next_of f room c) ≡ rest_rows c
    piece_rest = go (ℕ_discrete k 0) (dec_lt c.line (lines_in f n))
      where
        go : Dec (k ≡ 0) → Dec (c.line < lines_in f n) → piece_rows ++ rest_rows (next_of f room c) ≡ rest_rows c
        go (yes z) d = unfold piece_rows rows_from in rw (stays f room c z, z)
        go (no z) (yes h) = rw (goes f room c h z) (onward_rest h)
        go (no z) (no h) = absurd (z (no_line f room c (omega arith)))

    -- in bytes
    pub piece_bytes_lem : piece_bytes f room c ++ joined (rest_rows (next_of f room c)) ≡ joined (rest_rows c)
    piece_bytes_lem =
        rw (← rows_bytes, ← joined_append piece_rows (rest_rows (next_of f room c))) (ap joined piece_rest)

    -- and in lines
    pub piece_count : k + length (rest_rows (next_of f room c)) ≡ length (rest_rows c)
    piece_count =
        rw (← rows_count, ← length-append piece_rows (rest_rows (next_of f room c))) (ap length piece_rest)
