use Rattle.std.proofs.Common.{◌≡◌, ◌++◌, length, drop}
use Rattle.text.specs.Text.{hex_of}
use Rattle.text.proofs.hex_digits.Given as goal

abbrev pub invariant-loop-i : goal.invariant-loop-i
invariant-loop-i g l = (length l.columns ≡ g.row.COLUMNS) × (hex_of l.i l.rest ++ drop l.i l.columns ≡ hex_of g.row.COLUMNS l.n)
