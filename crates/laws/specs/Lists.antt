-- What is asked of a list of numbers.
use Rattle.std.specs.Prelude.{ℕ, Bool, false, ◌||◌, List, [], ◌∷◌, eqb}

-- is the number one of these?
unfoldable pub elem : ℕ → List ℕ → Bool
elem a [] = false
elem a (v ∷ vs) = eqb a v || elem a vs
