use Rattle.text.specs.Text.{text_of, letters, letter}
use Rattle.line.proofs.Draft.push_separator.Goals as goal

pub returns-then-is_first : goal.returns-then-is_first
unfolding text_of letters letter
returns-then-is_first c = rw c.if-is_first.true c.push_bytes.ensures

pub returns-else-is_first : goal.returns-else-is_first
unfolding text_of letters letter
returns-else-is_first c = rw c.if-is_first.false c.push_bytes-else-is_first.ensures
