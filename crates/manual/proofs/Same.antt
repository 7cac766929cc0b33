-- Tests that two things are the same, and what such a test shows.
use Prim.Native.Nat.{ℕ}
use mathlib.Core.Path.{◌≡◌, refl, sym, ap₂, subst}
use mathlib.Core.Bool.{Bool, true, false, ◌&&◌}
use mathlib.Core.List.{List, [], ◌∷◌}
use lib.Dec.{T, eqb, eqb→eq}
use borrow.Author.Tests.{eq-eqb}
use Rattle.word.specs.Word.{Field, same_field}
use Rattle.laws.proofs.Tests.{and_l, and_r, and_i}
use Rattle.classes.proofs.Tests.{same_field_lem}

-- lists whose members are the same, one by one
module _ {A : Type 0} (same : A → A → Bool) where
  unfoldable pub same_list : List A → List A → Bool
  same_list [] [] = true
  same_list [] (b ∷ l) = false
  same_list (a ∷ k) [] = false
  same_list (a ∷ k) (b ∷ l) = same a b && same_list k l

  pub same_list_lem : ((a b : A) → T (same a b) → a ≡ b) → (k l : List A) → T (same_list k l) → k ≡ l
  unfolding same_list
  same_list_lem h [] [] t = refl
  same_list_lem h [] (b ∷ l) t = absurd t
  same_list_lem h (a ∷ k) [] t = absurd t
  same_list_lem h (a ∷ k) (b ∷ l) t =
      ap₂ (λ (c : A) (r : List A). c ∷ r) (h a b (and_l (same a b) (same_list k l) t)) (same_list_lem h k l (and_r (same a b) (same_list k l) t))

  pub list_same : ((a : A) → T (same a a)) → (k : List A) → T (same_list k k)
  unfolding same_list
  list_same h [] = tt
  list_same h (a ∷ k) = and_i (same a a) (same_list k k) (h a) (list_same h k)

-- ── fields ──

abbrev pub same_fields : List Field → List Field → Bool
same_fields xs ys = same_list same_field xs ys

pub same_fields_lem : (xs ys : List Field) → T (same_fields xs ys) → xs ≡ ys
same_fields_lem xs ys t = same_list_lem same_field same_field_lem xs ys t

-- ── numbers ──

abbrev pub same_numbers : List ℕ → List ℕ → Bool
same_numbers k l = same_list eqb k l

pub same_numbers_lem : (k l : List ℕ) → T (same_numbers k l) → k ≡ l
same_numbers_lem k l t = same_list_lem eqb eqb→eq k l t

pub numbers_same : (k : List ℕ) → T (same_numbers k k)
numbers_same k = list_same eqb (λ a. subst T (sym (eq-eqb a a refl)) tt) k
