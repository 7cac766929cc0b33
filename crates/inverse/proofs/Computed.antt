-- The tables of the definition pass the test: it is computed under each width flag.
use mathlib.Core.Bool.{Bool, true, false}
use native.Mathlib.Decide.{ℕ_discrete}
use lib.Dec.{T}
use Rattle.word.specs.Word.{word}
use Rattle.classes.specs.Meaning.{match, six}
use Rattle.classes.specs.Table.{common, by_width, table}
use Rattle.laws.specs.Lists.{elem}
use Rattle.classes.specs.Refusals.{refusals}
use Rattle.laws.proofs.Tests.{and_i}
use Rattle.classes.proofs.Boxes.{exact}
use Rattle.classes.proofs.Accepts.{numbered, numbered_refusals, exact_table}
use Rattle.classes.proofs.Find.{every}
use Rattle.classes.proofs.Operands.{operands_in}
use Rattle.classes.proofs.Uses.{uses, uses_form, is_read, made_of_read}
use Rattle.inverse.proofs.Fill.{apart}
use Rattle.inverse.proofs.Restored.{rotates}
use Rattle.inverse.specs.Private.Candidate.{first, least}
use Rattle.inverse.proofs.Later.{later, follows, in_order}
use Rattle.inverse.proofs.Good.{least_in, nops_in, sound, same_operands, before, twin, paired, good}

sound_table : (wide : Bool) → T (every sound (table wide))
unfolding every sound made_of_read six uses_form uses is_read least least_in match nops_in apart operands_in table common by_width
sound_table true = tt
sound_table false = tt

paired_table : (wide : Bool) → T (paired (table wide))
unfolding paired every twin elem ℕ_discrete same_operands six is_read least before table common by_width
paired_table true = tt
paired_table false = tt

pub good_table : (wide : Bool) → T (good (table wide) refusals)
unfolding good
good_table wide =
    and_i (exact (table wide) refusals) _ (exact_table wide)
    (and_i (numbered refusals) _ numbered_refusals (and_i (every sound (table wide)) (paired (table wide)) (sound_table wide) (paired_table wide)))

pub rotating_table : (wide : Bool) → T (every rotates (table wide))
unfolding every rotates table common by_width
rotating_table true = tt
rotating_table false = tt

pub ordered_table : (wide : Bool) → T (in_order (table wide) (table wide))
unfolding in_order every follows later first least word table common by_width
ordered_table true = tt
ordered_table false = tt
