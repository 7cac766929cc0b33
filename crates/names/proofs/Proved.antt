-- What specs/Theorems.antt states, proved.
use Prim.Native.Nat.{ℕ}
use mathlib.Core.Path.{◌≡◌, refl, ap}
use mathlib.Core.Bool.{Bool, true, false}
use mathlib.Core.List.{List, [], ◌∷◌}
use lib.Dec.{T, ltb}
use lib.ListN.{drop}
use borrow.Author.Tests.{ltb-true, ltb-false}
use Rattle.reading.specs.Kind.{many}
use Rattle.reading.specs.Names.{mnemonics, name_of}
use Rattle.text.specs.Text.{letter, letters, padded, same}
use Rattle.names.specs.Names.{name_bytes}
use Rattle.names.specs.Theorems.{Theorems}
use Rattle.laws.proofs.Tests.{all_below, below}
use Rattle.text.proofs.Texts.{same_eq}
use Rattle.names.proofs.Found.{name_one, no_name, back, named}

zeros : List ℕ
zeros = 0 ∷ 0 ∷ 0 ∷ 0 ∷ 0 ∷ 0 ∷ 0 ∷ []

all_short : T (all_below (λ k. same (drop 9 (name_bytes k)) zeros) many)
unfolding zeros all_below same name_bytes name_of mnemonics padded letters letter
all_short = tt

nine : (k : ℕ) → drop 9 (name_bytes k) ≡ zeros
unfolding zeros padded letters letter
nine k = go (ltb k many) refl
  where
    go : (b : Bool) → ltb k many ≡ b → drop 9 (name_bytes k) ≡ zeros
    go true e =
        let short = below (λ k. same (drop 9 (name_bytes k)) zeros) many all_short k (ltb-true k many e) in
        same_eq (drop 9 (name_bytes k)) zeros short
    go false e = ap (drop 9) (no_name k (ltb-false k many e))

pub theorems : Theorems
unfolding zeros
theorems = record { back = back; one = name_one; named = named; nine = nine }
