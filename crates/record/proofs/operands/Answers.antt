use Rattle.std.proofs.Common.{◌≡◌, ◌+◌, ◌*◌, length, sym, ap, ◌∙◌, add-one, arith, rules}
use Rattle.buffers.specs.Bytes.{over_at}
use Rattle.buffers.proofs.Laws.{then_at, over_nothing}
use Rattle.record.specs.Record.{slot_of, slot_bytes}
use Rattle.record.proofs.Pieces.{slots, slots_long}
use Rattle.record.proofs.operands.Goals as goal

pub loop-k-init : goal.loop-k-init
loop-k-init c = sym (over_nothing 24 c.args.«record».now)

pub loop-k-preserved : goal.loop-k-preserved
loop-k-preserved c =
    let i = c.args.i.now in
    let k = c.loop-k.k in
    let d = c.args.«record».now in
    let long : length d ≡ 80 = search rules in
    rw add-one
    (then_at 24 (24 + k * 10) (slots i k) (slot_bytes (slot_of i k)) d (omega (arith, slots_long i k))
    (omega (arith, c.loop-k-test.true, long)) c.loop-k.invariant
    (c.put.ensures ∙ ap (λ l. over_at (24 + k * 10) l c.loop-k.«record») c.slot.ensures))

pub returns : goal.returns
returns c =
    let e : c.loop-k.k ≡ 4 = omega (arith, c.loop-k-test.false, c.loop-k.auto.k-end) in
    c.loop-k.invariant ∙ ap (λ k. over_at 24 (slots c.args.i.now k) c.args.«record».now) e
