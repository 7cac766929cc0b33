-- What one of a row of writers leaves: a line is written piece by piece.
use Rattle.std.specs.Prelude.{ℕ, ◌+◌, ◌≤◌, ◌≡◌, List, length}
use Rattle.buffers.specs.Bytes.{over_at}

-- l, of at most `most` bytes, is in d' from place `at` on, all else is as in d, and r is the place after it
pub record Wrote (at most : ℕ) (l d d' : List ℕ) (r : ℕ) : Type 0 where
  pub after : r ≡ at + length l
  pub short : r ≤ at + most
  pub bytes : d' ≡ over_at at l d
