use Rattle.std.proofs.Common.{◌≡◌, ◌<◌, ◌≤◌, ◌-◌, ◌^◌, ◌++◌, length}
use Rattle.text.specs.Text.{last_of, numeral_of}
use Rattle.text.proofs.Numeral.of.Given as goal

-- the digits that are left and those that are written are all of them, and twenty are enough
abbrev pub invariant-loop-rest : goal.invariant-loop-rest
invariant-loop-rest l =
    record {
      short : length l.numeral ≤ 20;
      left : l.rest < 10 ^ (20 - length l.numeral);
      whole : last_of l.base (20 - length l.numeral) l.rest ++ l.numeral ≡ numeral_of l.base l.n;
    }

abbrev pub decreases-loop-rest : goal.decreases-loop-rest
decreases-loop-rest l = l.rest
