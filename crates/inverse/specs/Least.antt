-- THE SMALLEST WORD'S UNREAD FIELDS, in document 01's words: it has zeros in them, except that `rotr`,
-- `sll zero, zero, 0` and `sll zero, zero, 1` need rs 1.
use Rattle.std.specs.Prelude.{ℕ, ◌/◌, ◌≡◌}
use Rattle.word.specs.Word.{Field, rs, fields_of}
use Rattle.reading.specs.Kind as kind
use Rattle.classes.specs.Row.{Pat, is, read, read_but, zeros, extra, skip_but, low, Row, pat_of}

-- what a class that asks this of a field does not read of it is zero
abbrev pub ZeroAt : Pat → ℕ → Type 0
ZeroAt (is v) a = Unit {0}
ZeroAt read a = Unit {0}
ZeroAt (read_but v) a = Unit {0}
ZeroAt zeros a = a ≡ 0
ZeroAt extra a = a ≡ 0
ZeroAt (skip_but v) a = a ≡ 0
ZeroAt (low v) a = a / 4 ≡ 0

-- the words that need rs 1: with rs 0 the first would be `srl`, the others `nop` and `ssnop`
pub data NeedsOne (r : Row) (w : ℕ) : Type 0 where
  rotr : r.kind ≡ kind.rotr → NeedsOne r w
  sll_by_0 : w ≡ 0x00200000 → NeedsOne r w
  sll_by_1 : w ≡ 0x00200040 → NeedsOne r w

-- a word of the class r, as far as the class does not read it
pub record Least (r : Row) (w : ℕ) : Type 0 where
  pub zeros : ¬ NeedsOne r w → (x : Field) → ZeroAt (pat_of r x) (fields_of w x)
  pub one : NeedsOne r w → fields_of w rs ≡ 1
  pub beside : NeedsOne r w → (x : Field) → ¬ (x ≡ rs) → ZeroAt (pat_of r x) (fields_of w x)
