-- What the private functions answer.
use Rattle.std.specs.Prelude.{ℕ, ◌≤◌, ◌≡◌, true, List, ◌++◌, length}
use Rattle.reading.specs.declared.Decoded.{Decoded}
use Rattle.text.specs.Text.{text_of, hex_of}
use Rattle.line.specs.Line.{Spelling, line_of, printable, longest}
use Rattle.body.specs.declared.View.{View}
use Rattle.body.specs.Body.{address_at, word_at}

-- a reading that has a line, and none that is too long
pub record Answers (σ : Spelling) (d : Decoded) : Type 0 where
  pub lined : printable d.insn ≡ true
  pub short : length (line_of σ d.insn) ≤ longest

-- what stands before the text of a line
unfoldable pub columns_of : View → List ℕ → ℕ → List ℕ
columns_of v body n = hex_of 16 (address_at v n) ++ text_of " " ++ hex_of 8 (word_at v body n) ++ text_of " "
