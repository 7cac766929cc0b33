-- What the private functions answer.
use Rattle.std.specs.Prelude.{ℕ, ◌-◌, ◌≡◌, List, [], ◌∷◌, ◌++◌, length}
use Rattle.buffers.specs.Bytes.{over, whole}
use Rattle.text.specs.Text.{newline, text_of, numeral_of}
use Rattle.pages.specs.Lines.{lines_from, fitting}
use Rattle.listing.specs.Swept.{word_count, refused_count, sum_from}
use Rattle.listing.specs.Piece.{line_at, lines_in}

-- a number has at most this many
abbrev pub digits : ℕ
digits = 20

-- `file refused` and the number
abbrev pub refused_with : ℕ → List ℕ
refused_with number = text_of "file refused " ++ numeral_of 10 number ++ (newline ∷ [])

-- the counts of the first n sections
pub record Totals (f : List ℕ) (n words refused : ℕ) : Type 0 where
  pub words_are : words ≡ sum_from (word_count f) n 0
  pub refused_are : refused ≡ sum_from (refused_count f) n 0

-- a line, if it has room
pub record Put (l out out' : List ℕ) (size : ℕ) : Type 0 where
  pub size_is : size ≡ length (whole l (length out))
  pub left : out' ≡ over (whole l (length out)) out

-- as many lines as fit, from line j of section n on
pub record Ran (f : List ℕ) (n j : ℕ) (out out' : List ℕ) (lines bytes : ℕ) : Type 0 where
  pub fit : lines ≡ fitting (line_at f n) (lines_in f n - j) j (length out)
  pub long : bytes ≡ length (lines_from (line_at f n) lines j)
  pub text : out' ≡ over (lines_from (line_at f n) lines j) out
