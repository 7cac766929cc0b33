-- WHEN TWO WORDS HAVE ONE READING. The address, and the table of classes that a width flag gives, are parameters.
use Rattle.std.specs.Prelude.{ℕ, ◌≡◌, List, [], ◌∷◌, T}
use Rattle.std.proofs.Math.Option.{some}
use Rattle.word.specs.Word.{Fields}
use Rattle.reading.specs.Kind as kind
use Rattle.classes.specs.Row.{Row}
use Rattle.classes.specs.Meaning.{find, outs}
use Rattle.laws.specs.Lists.{elem}
use Rattle.classes.specs.Theorems.{Agree}

-- the mnemonics whose classes share readings
abbrev pub groups : List ℕ
groups = kind.move ∷ kind.li ∷ kind.b ∷ []

-- classes of one of these groups
pub record Twins (r s : Row) : Type 0 where
  pub mnemonic : r.kind ≡ s.kind
  pub group : T (elem r.kind groups)

-- two words, given by their fields
pub data Alike (ts : List Row) (va : ℕ) (f g : Fields) : Type 0 where
  -- they are of one class and agree in every field which that class reads,
  one_class : (r : Row) → find ts f ≡ some r → find ts g ≡ some r → Agree r f g → Alike ts va f g
  -- or they are twins with equal operands
  twins : (r s : Row) → find ts f ≡ some r → find ts g ≡ some s → Twins r s →
      outs r.form va f ≡ outs s.form va g → Alike ts va f g
