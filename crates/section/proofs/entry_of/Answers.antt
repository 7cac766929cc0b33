use Rattle.std.proofs.Common.{arith}
use Rattle.std.proofs.lemmas.Grind.{common_steps}
use Rattle.refusal.proofs.One.{number_above_0}
use Rattle.section.specs.Section.{refusal_of, count_of}
use Rattle.section.proofs.Answers.{entry_for, no_entry_for}
use Rattle.section.proofs.entry_of.Goals as goal

pub returns-in_err-header-clause-number : goal.returns-in_err-header-clause-number
unfolding refusal_of
returns-in_err-header-clause-number c = grind (arith, common_steps, number_above_0)

pub returns-in_err-header-clause-entry : goal.returns-in_err-header-clause-entry
unfolding refusal_of
returns-in_err-header-clause-entry c =
    let none = no_entry_for c.args.file.now c.args.n (grind (arith, common_steps, number_above_0)) in
    grind (arith, common_steps, none)

pub returns-then-header-n-clause-number : goal.returns-then-header-n-clause-number
unfolding refusal_of count_of
returns-then-header-n-clause-number c = grind (arith, common_steps)

pub returns-then-header-n-clause-entry : goal.returns-then-header-n-clause-entry
unfolding refusal_of count_of
returns-then-header-n-clause-entry c = no_entry_for c.args.file.now c.args.n (grind (arith, common_steps))

pub returns-clause-number : goal.returns-clause-number
unfolding refusal_of count_of
returns-clause-number c = grind (arith, common_steps)

pub returns-clause-entry : goal.returns-clause-entry
unfolding refusal_of count_of
returns-clause-entry c = entry_for c.args.file.now c.args.n c.read.result (grind (arith, common_steps)) c.read.ensures
