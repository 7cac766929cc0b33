use Rattle.std.proofs.Common.{◌≡◌, ℕ, length}
use Rattle.listing.specs.Piece.{cursor_after}
use Rattle.listing.proofs.Rest.{rest_rows}
use Rattle.sweep.proofs.Pieces.{room}
use Rattle.sweep.proofs.list.Given as goal

-- this many pieces were written, and the next one begins at the cursor
abbrev pub invariant-loop-page : goal.invariant-loop-page
invariant-loop-page l = (length l.page ≡ room) × ((k : ℕ) × (l.at ≡ cursor_after l.file (λ i. room) k))

-- the lines that are left
abbrev pub decreases-loop-page : goal.decreases-loop-page
decreases-loop-page l = length (rest_rows l.file l.at)
