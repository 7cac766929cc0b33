-- What a row's columns make of the fields, opened as a whole: an attribute that names `row_reading` opens all of it.
use Rattle.std.specs.Prelude.{ℕ, List}
use Rattle.reading.specs.declared.Op.{Op}
use Rattle.reading.specs.declared.Insn.{Insn}
use Rattle.classes.specs.Row.{Manner}
use Rattle.classes.specs.Meaning.{reading, outs, out, flow_of, target_in, mark_of, effect_of}

unfoldable pub row_reading : ℕ → Manner → List Op → Insn
unfolding reading outs out flow_of target_in mark_of effect_of
row_reading = reading
