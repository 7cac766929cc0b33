use Rattle.std.proofs.Common.{ap, ◌∙◌}
use Rattle.text.specs.Text.{before_zero}
use Rattle.line.proofs.Names.{register_name_lem, register_most}
use Rattle.line.proofs.Drafts.{named}
use Rattle.line.proofs.Draft.push_register.Goals as goal

pub returns : goal.returns
returns c =
    named (ap before_zero c.register.ensures ∙ register_name_lem c.args.r) (register_most c.args.r) c.push_name.ensures
