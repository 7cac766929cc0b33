-- The four slots of a list of operands.
use Rattle.std.proofs.Common.{◌≡◌, ℕ, ◌≤◌, List, [], ◌∷◌, ◌++◌, length, get_or, set, arith, refl}
use Rattle.reading.specs.declared.Op.{Op}
use Rattle.reading.specs.declared.Op.TheVariants.{Reg}
use Rattle.reading.specs.Reading.{operand}
use Rattle.classes.specs.Meaning.{slots}

-- by their places
pub by_place : (os : List Op) →
    slots os
    ≡ operand (get_or os 0 (Reg 0)) ∷ operand (get_or os 1 (Reg 0)) ∷ operand (get_or os 2 (Reg 0))
    ∷ operand (get_or os 3 (Reg 0)) ∷ []
by_place [] = refl
by_place (a ∷ []) = refl
by_place (a ∷ b ∷ []) = refl
by_place (a ∷ b ∷ c ∷ []) = refl
by_place (a ∷ b ∷ c ∷ d ∷ os) = refl

-- one more operand goes into the slot after those that are used
pub one_more : (os : List Op) (n : ℕ) (a : Op) → n ≡ length os → n ≤ 3 →
    set (slots os) n (operand a) ≡ slots (os ++ a ∷ [])
one_more [] n a e l = rw e refl
one_more (o ∷ []) n a e l = rw e refl
one_more (o ∷ p ∷ []) n a e l = rw e refl
one_more (o ∷ p ∷ q ∷ []) n a e l = rw e refl
one_more (o ∷ p ∷ q ∷ r ∷ os) n a e l = absurd (omega arith)
