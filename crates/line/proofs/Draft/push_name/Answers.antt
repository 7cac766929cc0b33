use Rattle.std.proofs.Common.{arith}
use Rattle.text.specs.Text.{before_zero}
use Rattle.text.proofs.Lengths.{name_most}
use Rattle.line.proofs.Drafts.{added}
use Rattle.line.proofs.Draft.push_name.Goals as goal

pub overflow_add-self : goal.overflow_add-self
overflow_add-self c = omega (arith, name_most c.args.name.now, c.name.ensures.value, c.requires)

pub returns : goal.returns
returns c =
    let most = name_most c.args.name.now in
    added _ (before_zero c.args.name.now) c.args.self.now (omega arith) (omega (arith, most, c.requires))
    c.name.ensures.value c.name.ensures.out_after
