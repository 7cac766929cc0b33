-- Texts as bytes: when two are the same, and a space.
use Prim.Native.Nat.{ℕ}
use mathlib.Core.Path.{◌≡◌, refl}
use mathlib.Core.Bool.{true}
use mathlib.Core.List.{List, [], ◌∷◌}
use lib.Dec.{T, eqb, eqb→eq}
use borrow.Author.Tests.{eq-eqb}
use Rattle.laws.proofs.Tests.{and_l, and_r}
use Rattle.text.specs.Text.{letter, letters, text_of, same}

pub same_eq : (a b : List ℕ) → T (same a b) → a ≡ b
unfolding same
same_eq [] [] t = refl
same_eq [] (y ∷ ys) t = absurd t
same_eq (x ∷ xs) [] t = absurd t
same_eq (x ∷ xs) (y ∷ ys) t =
    let e : x ≡ y = eqb→eq x y (and_l (eqb x y) (same xs ys) t) in
    let r : xs ≡ ys = same_eq xs ys (and_r (eqb x y) (same xs ys) t) in
    cc

pub same_self : (a : List ℕ) → same a a ≡ true
unfolding same
same_self [] = refl
same_self (x ∷ xs) = rw (eq-eqb x x refl) (same_self xs)

-- as the code writes it
pub space : 32 ∷ [] ≡ text_of " "
unfolding text_of letters letter
space = refl
