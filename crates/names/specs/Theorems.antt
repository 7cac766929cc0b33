-- WHAT IS PROVED OF THE NAMES. The proofs are in proofs/Proved.antt.
use Rattle.std.specs.Prelude.{ℕ, ◌<◌, ◌≡◌, List, [], ◌∷◌, drop}
use Rattle.reading.specs.Kind.{many}
use Rattle.names.specs.Names.{name_bytes, kind_of}

pub record Theorems : Type 0 where
  -- every kind has its name back
  pub back : (k : ℕ) → k < many → kind_of (name_bytes k) ≡ k
  -- no two kinds share a name
  pub one : (j k : ℕ) → j < many → k < many → name_bytes j ≡ name_bytes k → j ≡ k
  -- bytes that have a kind are its name
  pub named : (l : List ℕ) (k : ℕ) → k < many → kind_of l ≡ k → l ≡ name_bytes k
  -- no name has more than nine letters
  pub nine : (k : ℕ) → drop 9 (name_bytes k) ≡ 0 ∷ 0 ∷ 0 ∷ 0 ∷ 0 ∷ 0 ∷ 0 ∷ []
