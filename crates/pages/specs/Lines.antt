-- LINES OF ANY KIND, one after the other: how many of them fit.
use Rattle.std.specs.Prelude.{ℕ, zero, suc, ◌+◌, ◌-◌, cond, List, [], ◌++◌, leb, length}

-- k lines from line n on
unfoldable pub lines_from : (ℕ → List ℕ) → ℕ → ℕ → List ℕ
lines_from line zero n = []
lines_from line (suc k) n = line n ++ lines_from line k (n + 1)

-- how many of them fit whole, one after the other, in this much room
unfoldable pub fitting : (ℕ → List ℕ) → ℕ → ℕ → ℕ → ℕ
fitting line zero n room = 0
fitting line (suc k) n room = cond (leb (length (line n)) room) (fitting line k (n + 1) (room - length (line n)) + 1) 0
