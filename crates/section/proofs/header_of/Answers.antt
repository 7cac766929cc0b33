use Rattle.std.proofs.Common.{arith}
use Rattle.std.proofs.lemmas.Grind.{common_steps}
use Rattle.section.specs.Section.{good_entries, checked}
use Rattle.section.proofs.Answers.{header_for, no_header_for}
use Rattle.section.proofs.header_of.Goals as goal

pub returns-then-not-good_header-clause-header : goal.returns-then-not-good_header-clause-header
unfolding checked
returns-then-not-good_header-clause-header c = no_header_for c.args.file.now (grind (arith, common_steps))

pub returns-then-not-good_entries-clause-header : goal.returns-then-not-good_entries-clause-header
unfolding checked good_entries
returns-then-not-good_entries-clause-header c = no_header_for c.args.file.now (grind (arith, common_steps))

pub returns-clause-header : goal.returns-clause-header
unfolding checked good_entries
returns-clause-header c =
    header_for c.args.file.now c.read-header.result (grind (arith, common_steps)) c.read-header.ensures
