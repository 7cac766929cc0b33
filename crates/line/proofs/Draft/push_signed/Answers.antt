use Rattle.std.proofs.Common.{arith, to_z-of_z}
use lib.Signed.{nat_abs-le}
use Rattle.text.specs.Text.{decimal_of}
use Rattle.text.proofs.Lengths.{decimal_short}
use Rattle.line.proofs.Drafts.{added}
use Rattle.line.proofs.Draft.push_signed.Goals as goal

pub overflow_add-self : goal.overflow_add-self
overflow_add-self c =
    let most = decimal_short c.args.x (nat_abs-le c.args.x c.ranges.x.sfits) in
    omega (arith, most, rw (to_z-of_z c.ranges.x) at c.decimal.ensures.value, c.requires)

pub returns : goal.returns
returns c =
    let most = decimal_short c.args.x (nat_abs-le c.args.x c.ranges.x.sfits) in
    added _ (decimal_of c.args.x) c.args.self.now most (omega (arith, most, c.requires))
    (rw (to_z-of_z c.ranges.x) at c.decimal.ensures.value) (rw (to_z-of_z c.ranges.x) at c.decimal.ensures.out_after)
