-- Each line is one line and none is longer than 147 bytes, so that newlines tell the lines, and pieces come to an end.
use Prim.Native.Nat.{ℕ, zero, suc, ◌+◌, ◌-◌, ◌<◌, ◌≤◌}
use mathlib.Core.Path.{◌≡◌, refl, sym, ap, ◌∙◌}
use mathlib.Core.Bool.{Bool, true, false, cond}
use mathlib.Core.List.{List, [], ◌∷◌, ◌++◌, append-nil}
use native.Mathlib.Omega.{arith}
use lib.Dec.{eqb, ltb}
use lib.ListN.{length, length-append}
use Rattle.text.specs.Text.{letter, letters, text_of, numeral_of, newline, without, lines_of, OneLine}
use Rattle.text.proofs.Lengths.{numeral_most}
use Rattle.text.proofs.Rows.{without_append, numeral_without}
use Rattle.line.proofs.Proved as line
use Rattle.section.specs.Section.{checked, count_of, body_of}
use Rattle.line.specs.Line.{plain}
use Rattle.pages.specs.Lines.{lines_from}
use Rattle.pages.specs.Page.{longest_line}
use Rattle.pages.proofs.Runs.{run_longest}
use Rattle.pages.proofs.Sheets.{line_most}
use Rattle.pages.proofs.Proved as pages
use Rattle.listing.specs.declared.Cursor.{Cursor}
use Rattle.listing.specs.Swept.{view_in, word_count, counted, head_line, line_in, total_line, refused_line, swept_of}
use Rattle.listing.specs.Piece.{last_line, line_at, lines_in, piece_lines, piece_bytes}
use Rattle.pages.proofs.Rows.{joined, joined_append, rows_from, rows_cut}
use Rattle.listing.proofs.Rest.{parts_from, all_rows}
use Rattle.listing.proofs.Whole.{all_bytes}

-- ── one line each ──

-- two texts and their numbers
counted_line : (a b : List ℕ) (m n : ℕ) → without newline a ≡ true → without newline b ≡ true →
    OneLine (counted a m b n)
counted_line a b m n p q =
    record {
      text = a ++ numeral_of 10 m ++ b ++ numeral_of 10 n;
      is = refl;
      clear =
          simp (
            without_append,
            p,
            q,
            numeral_without newline (omega arith) 10 m,
            numeral_without newline (omega arith) 10 n,
          );
    }

module _ (f : List ℕ) where
  head_line_lem : (n : ℕ) → OneLine (head_line f n)
  unfolding head_line
  head_line_lem n = counted_line (text_of "section ") (text_of " words ") n (word_count f n) clear clear'
    where
      clear : without newline (text_of "section ") ≡ true
      clear = unfold without text_of letters letter in refl

      clear' : without newline (text_of " words ") ≡ true
      clear' = unfold without text_of letters letter in refl

  last_line_lem : OneLine (last_line f)
  unfolding last_line total_line refused_line
  last_line_lem = go (eqb (checked f) 0)
    where
      clear : without newline (text_of "words ") ≡ true
      clear = unfold without text_of letters letter in refl

      clear' : without newline (text_of " refused ") ≡ true
      clear' = unfold without text_of letters letter in refl

      alone : without newline (text_of "file refused ") ≡ true
      alone = unfold without text_of letters letter in refl

      go : (b : Bool) → OneLine (cond b (total_line f) (refused_line f))
      go true = counted_line (text_of "words ") (text_of " refused ") _ _ clear clear'
      go false =
          record {
            text = text_of "file refused " ++ numeral_of 10 (checked f);
            is = refl;
            clear = simp (without_append, alone, numeral_without newline (omega arith) 10 (checked f));
          }

  one_line : (n j : ℕ) → OneLine (line_at f n j)
  unfolding line_at line_in
  one_line n j = go (ltb n (count_of f)) (eqb j 0)
    where
      go : (b d : Bool) → OneLine (cond b (cond d (head_line f n) (line_in f n (j - 1))) (last_line f))
      go true true = head_line_lem n
      go true false = (pages.theorems).own_line plain (line.theorems).plain_unbroken (view_in f n) (body_of f n) (j - 1)
      go false d = last_line_lem

  -- the lines by their newlines are all lines
  parts_cut : (k n : ℕ) → lines_of (joined (parts_from f k n)) ≡ parts_from f k n
  unfolding parts_from
  parts_cut zero n = unfold joined lines_of in refl
  parts_cut (suc k) n =
      ap lines_of (joined_append (rows_from (line_at f n) (lines_in f n) 0) (parts_from f k (n + 1)))
      ∙ rows_cut (line_at f n) (one_line n) (lines_in f n) 0 (joined (parts_from f k (n + 1)))
      ∙ ap (λ (x : List (List ℕ)). rows_from (line_at f n) (lines_in f n) 0 ++ x) (parts_cut k (n + 1))

  pub rows_are : lines_of (swept_of f) ≡ all_rows f
  rows_are = ap lines_of (sym (all_bytes f)) ∙ parts_cut (count_of f + 1) 0

  -- ── none too long ──

  counted_most : (a b : List ℕ) (m n : ℕ) → length a + length b ≤ 15 → length (counted a m b n) ≤ longest_line
  counted_most a b m n h = simp length-append (omega (arith, numeral_most 10 m, numeral_most 10 n))

  head_most : (n : ℕ) → length (head_line f n) ≤ longest_line
  unfolding head_line text_of letters
  head_most n = counted_most (text_of "section ") (text_of " words ") n (word_count f n) (omega arith)

  last_most : length (last_line f) ≤ longest_line
  unfolding last_line total_line refused_line text_of letters
  last_most = go (eqb (checked f) 0)
    where
      go : (b : Bool) → length (cond b (total_line f) (refused_line f)) ≤ longest_line
      go true = counted_most (text_of "words ") (text_of " refused ") _ _ (omega arith)
      go false = simp length-append (omega (arith, numeral_most 10 (checked f)))

  pub at_most : (n j : ℕ) → length (line_at f n j) ≤ longest_line
  unfolding line_at line_in
  at_most n j = go (ltb n (count_of f)) (eqb j 0)
    where
      go : (b d : Bool) → length (cond b (cond d (head_line f n) (line_in f n (j - 1))) (last_line f)) ≤ longest_line
      go true true = head_most n
      go true false = line_most plain (view_in f n) (body_of f n) 0 0 0 (line.theorems).within (j - 1)
      go false d = last_most

  -- with room for it there is a line in a piece
  pub one_fits : (room : ℕ) (c : Cursor) → longest_line ≤ room → c.line < lines_in f c.section →
      1 ≤ piece_lines f room c
  unfolding piece_lines lines_from
  one_fits room c r h =
      run_longest (line_at f c.section) (lines_in f c.section - c.line) c.line room 1 (omega arith)
      (simp append-nil (omega (arith, at_most c.section c.line)))

  -- and it has bytes
  pub some_bytes : (room : ℕ) (c : Cursor) → 1 ≤ piece_lines f room c → 0 < length (piece_bytes f room c)
  unfolding piece_bytes lines_from
  some_bytes room c h =
      let L = line_at f c.section c.line in
      let o = one_line c.section c.line in
      let e : piece_lines f room c ≡ suc (piece_lines f room c - 1) = omega arith in
      let l : length L ≡ length o.text + 1 = ap length o.is ∙ length-append o.text (newline ∷ []) in
      rw e (simp length-append (omega (arith, l)))
