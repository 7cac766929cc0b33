-- A name ends at the first zero.
use mathlib.Core.Path.{◌≡◌, refl, ap}
use mathlib.Core.Bool.{Bool, true, false, cond}
use mathlib.Core.List.{List, [], ◌∷◌}
use Prim.Native.Nat.{ℕ}
use lib.Dec.{eqb}
use lib.ListN.{length, take}
use native.Mathlib.Omega.{arith}
use Prim.Native.Nat.{◌+◌}
use Rattle.std.specs.List.{position_or_len}
use Rattle.std.proofs.lemmas.List.Recursion.{is_position_or_len}
use Rattle.text.specs.Text.{before_zero}

-- its length is the place of the first zero
pub name_is : (l : List ℕ) → length (before_zero l) ≡ position_or_len (λ b. eqb b 0) l
unfolding before_zero
name_is l = is_position_or_len (λ l. length (before_zero l)) (λ b. eqb b 0) refl (λ b bs. more (eqb b 0) b bs) l
  where
    more : (t : Bool) (b : ℕ) (bs : List ℕ) → length (cond t [] (b ∷ before_zero bs)) ≡ cond t 0 (1 + length (before_zero bs))
    more true b bs = refl
    more false b bs = omega arith

-- a name is the first bytes
pub name_front : (l : List ℕ) → take (length (before_zero l)) l ≡ before_zero l
unfolding before_zero
name_front [] = refl
name_front (b ∷ bs) = go (eqb b 0) (before_zero bs) (name_front bs)
  where
    go : (t : Bool) (p : List ℕ) → take (length p) bs ≡ p → take (length (cond t [] (b ∷ p))) (b ∷ bs) ≡ cond t [] (b ∷ p)
    go true p e = refl
    go false p e = ap (λ (z : List ℕ). b ∷ z) e
