use Rattle.std.proofs.Common.{◌≡◌, ◌-◌}
use Rattle.section.specs.Section.{entry_at, good_from}
use Rattle.section.proofs.good_entries.Given as goal

-- what is left to check decides
abbrev pub invariant-loop-n : goal.invariant-loop-n
invariant-loop-n l =
    good_from l.file (l.count - l.n) l.n l.free ≡ good_from l.fn.file l.fn.count 0 (entry_at l.fn.count)
