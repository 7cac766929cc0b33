-- How a contract fixes the answer: by equations, by a test, or by a theorem of its own.
use Prim.Native.Nat.{ℕ}
use mathlib.Core.Path.{◌≡◌, refl, sym, ◌∙◌}
use mathlib.Core.Bool.{Bool, true, false}
use mathlib.Core.Logic.{◌↔◌}
use mathlib.Core.List.{List}
use contract.Lifetimes.{Lfts}
use denote.Triple.Clauses.{Lasts}
use borrow.Fn.Kinds.{ParamKind, ResultKind, Dens, res_t, Out, ended_of}
use Rattle.contracts.specs.Exact.{Meets, Exact}

-- two that are equal to one
pub same : {A : Type 0} {x y z : A} → x ≡ z → y ≡ z → x ≡ y
same p q = p ∙ sym q

-- what two answers leave in one parameter, and in those after it
pub ◌⨾◌ : {A B : Type 0} {a b : A × B} → a.0 ≡ b.0 → a.1 ≡ b.1 → a ≡ b
◌⨾◌ p q i = (p i, q i)

infixr 30 ◌⨾◌
-- two tests of one thing
pub same_test : {P : Type 0} (x y : Bool) → (x ≡ true) ↔ P → (y ≡ true) ↔ P → x ≡ y
same_test true y p q = sym (q.1 (p.0 refl))
same_test false true p q = p.1 (q.0 refl)
same_test false false p q = refl

module _ {n : ℕ} {ps : List (ParamKind n)} {r : ResultKind n} where
  -- what shows that a contract which asks nothing has one answer
  pub determined : {Learnt : Out n ps r} →
      ((κs : Lfts n) (a : Dens κs ps) (x y : (res_t r κs).Denot) (v w : Lasts (ended_of n ps r) κs a) → Meets ps r Learnt κs a x v → Meets ps r Learnt κs a y w → (x ≡ y) × (v ≡ w)) →
      Exact ps r (λ κs a. Unit {0}) Learnt
  determined one = record { asks_nothing = λ κs a. tt; one = one }

  -- the law for a contract that is an equation, where nothing is lent to be written
  pub by_equation : {f : (κs : Lfts n) → Dens κs ps → (res_t r κs).Denot} →
      ((κs : Lfts n) (a : Dens κs ps) (v w : Lasts (ended_of n ps r) κs a) → v ≡ w) → Exact ps r (λ κs a. Unit {0}) (λ κs a x e. x ≡ f κs a)
  by_equation still = determined (λ κs a x y v w p q. (same p q, still κs a v w))
