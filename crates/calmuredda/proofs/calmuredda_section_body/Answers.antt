use Rattle.std.proofs.Common.{◌∙◌, ap, length}
use Rattle.section.proofs.Proved.{theorems}
use Rattle.calmuredda.proofs.calmuredda_section_body.Goals as goal

pub returns-clause-size_after : goal.returns-clause-size_after
returns-clause-size_after c = ap length c.body.ensures.result_value ∙ theorems.sized c.args.file.now c.args.n
