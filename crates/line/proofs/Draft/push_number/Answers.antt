use Rattle.std.proofs.Common.{arith}
use Rattle.text.specs.Text.{numeral_of}
use Rattle.text.proofs.Lengths.{numeral_most}
use Rattle.line.proofs.Drafts.{added}
use Rattle.line.proofs.Draft.push_number.Goals as goal

pub overflow_add-self : goal.overflow_add-self
overflow_add-self c = omega (arith, numeral_most 10 c.args.n, c.count.ensures.value, c.requires)

pub returns : goal.returns
returns c =
    let most = numeral_most 10 c.args.n in
    added _ (numeral_of 10 c.args.n) c.args.self.now most (omega (arith, most, c.requires))
    c.count.ensures.value c.count.ensures.out_after
