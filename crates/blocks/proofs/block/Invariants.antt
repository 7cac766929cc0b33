use Rattle.std.proofs.Common.{◌-◌}
use Rattle.blocks.proofs.Blocks.{Left}
use Rattle.blocks.proofs.block.Given as goal

abbrev pub invariant-loop-k : goal.invariant-loop-k
invariant-loop-k l = Left l.v l.body l.n l.k

abbrev pub decreases-loop-k : goal.decreases-loop-k
decreases-loop-k l = l.words - l.k
