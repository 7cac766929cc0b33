use Rattle.body.proofs.Words.{Counting}
use Rattle.body.proofs.refusals.Given as goal

abbrev pub invariant-loop-n : goal.invariant-loop-n
invariant-loop-n l = Counting l.v l.body l.n l.found
