use Rattle.std.proofs.Common.{◌≡◌}
use Rattle.buffers.specs.Bytes.{over_at}
use Rattle.record.proofs.Pieces.{slots}
use Rattle.record.proofs.operands.Given as goal

-- the first k operands are written
abbrev pub invariant-loop-k : goal.invariant-loop-k
invariant-loop-k l = l.«record» ≡ over_at 24 (slots l.i l.k) l.initial.«record»
