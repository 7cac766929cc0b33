-- What the private functions answer.
use Rattle.std.specs.Prelude.{ℕ, ◌*◌, ◌<◌, ◌≡◌, List, take, drop, get_or, Option, Some}
use Rattle.reading.specs.Kind.{many}
use Rattle.names.specs.Names.{name_bytes}

-- r is one row of a table whose rows have this many bytes
pub record IsRow (size : ℕ) (l : List ℕ) (row : ℕ) (r : List ℕ) : Type 0 where
  pub bytes : r ≡ take size (drop (size * row) l)

-- r is one entry of a table
pub record IsEntry (l : List ℕ) (i r : ℕ) : Type 0 where
  pub value : r ≡ get_or l i 0

-- r is the only kind whose name l may be, or none
pub record Candidate (l : List ℕ) (r : Option ℕ) : Type 0 where
  pub only : (k : ℕ) → k < many → l ≡ name_bytes k → r ≡ Some k
  pub kind : (k : ℕ) → r ≡ Some k → k < many
