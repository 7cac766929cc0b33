use Rattle.std.proofs.Common.{drop}
use Rattle.line.specs.Line.{plain}
use Rattle.line.specs.Private.Steps.{separator}
use Rattle.line.proofs.Operands.{Turn}
use Rattle.line.proofs.fill.Given as goal

-- the operands before this one are written
abbrev pub invariant-loop-slot : goal.invariant-loop-slot
invariant-loop-slot l = Turn plain l.fn.i l.initial.line l.line (separator l.is_first) (drop l.slot-index l.slot-items)
