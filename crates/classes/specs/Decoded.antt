-- WHAT A WORD MEANS: the number and the reading that belong to a word, for every word, address and width flag.
use Rattle.std.specs.Prelude.{ℕ, Bool, List}
use Rattle.std.proofs.Math.Option.{Option, none, some}
use Rattle.word.specs.Word.{Fields, fields_of}
use Rattle.reading.specs.declared.Insn.{Insn}
use Rattle.reading.specs.declared.Decoded.{Decoded}
use Rattle.reading.specs.Reading.{blank_insn}
use Rattle.classes.specs.Row.{Row}
use Rattle.classes.specs.Meaning.{find, meaning}
use Rattle.classes.specs.Table.{table}
use Rattle.classes.specs.Refusals.{Refusal, refusal, refusals}

-- the blank reading where no row takes the word
abbrev pub reading_by : Option Row → ℕ → Fields → Insn
reading_by none va f = blank_insn
reading_by (some r) va f = meaning r va f

-- by any table of rows and any table of refusals: the number is the refusals', the reading the rows'
unfoldable pub decoded_by : List Row → List Refusal → ℕ → Fields → Decoded
decoded_by ts es va f = record { number = refusal es f; insn = reading_by (find ts f) va f }

unfoldable pub decoded_of : ℕ → ℕ → Bool → Decoded
decoded_of w va wide = decoded_by (table wide) refusals va (fields_of w)
