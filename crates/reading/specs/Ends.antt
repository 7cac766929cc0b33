-- WHAT ENDS A BLOCK, by the reading of a word: the block goes on after it, ends with the next word, or ends here.
use Rattle.std.specs.Prelude.{cond}
use Rattle.reading.specs.declared.Insn.{Insn}
use Rattle.reading.specs.declared.Ending.{Ending}
use Rattle.reading.specs.declared.Ending.TheVariants.{On, Slot}

-- a word with a mark ends it with the next word; no word ends it here
unfoldable pub ending_of : Insn → Ending
ending_of i = cond i.delay_slot Slot On
