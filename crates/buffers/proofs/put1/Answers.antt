use Rattle.std.proofs.Common.{[], ◌∷◌, sym, ◌∙◌, arith}
use lib.Seq.{sets-eq}
use Rattle.buffers.proofs.Laws.{placed_in}
use Rattle.buffers.proofs.put1.Goals as goal

pub returns-then-at-dst : goal.returns-then-at-dst
returns-then-at-dst c =
    let a = c.args in
    sets-eq (a.x ∷ []) a.dst.now a.at (omega arith) ∙ sym (placed_in a.at (a.x ∷ []) a.dst.now (omega arith))
