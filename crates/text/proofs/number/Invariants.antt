use Rattle.std.proofs.Common.{◌≡◌, take}
use Rattle.text.specs.Read.{hex_after}
use Rattle.text.proofs.number.Given as goal

abbrev pub invariant-loop-byte : goal.invariant-loop-byte
invariant-loop-byte l = l.value ≡ hex_after 0 (take l.byte-index l.columns)
