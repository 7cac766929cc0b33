use Rattle.std.proofs.Common.{◌+◌, refl, arith, length}
use Rattle.buffers.specs.Writes.{Wrote}
use Rattle.buffers.proofs.Writes.{wrote, after, kept}
use Rattle.text.proofs.Lengths.{numeral_most}
use Rattle.listing.proofs.put_number.Goals as goal

pub returns : goal.returns
returns c =
    let a = c.args in
    let b = a.before.now in
    let most = numeral_most 10 a.n in
    let text : Wrote a.at (length b) b a.out.now _ (a.at + length b) =
    wrote (omega arith) (omega (arith, c.requires)) refl c.put.ensures in
    after text
    (wrote most (rw (kept text (omega (arith, c.requires))) (omega (arith, c.requires, most))) c.count.ensures.value
    c.count.ensures.out_after)
    (omega (arith, c.requires))
