use Rattle.std.proofs.Common.{arith}
use Rattle.text.specs.Text.{address_of}
use Rattle.text.proofs.Lengths.{address_short}
use Rattle.line.proofs.Drafts.{added}
use Rattle.line.proofs.Draft.push_address.Goals as goal

pub overflow_add-self : goal.overflow_add-self
overflow_add-self c = omega (arith, address_short c.args.a (omega arith), c.address.ensures.value, c.requires)

pub returns : goal.returns
returns c =
    let most = address_short c.args.a (omega arith) in
    added _ (address_of c.args.a) c.args.self.now most (omega (arith, most, c.requires))
    c.address.ensures.value c.address.ensures.out_after
