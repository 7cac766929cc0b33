-- WHEN A CONTRACT FIXES THE ANSWER. A contract is taken as a caller has it: what it asks of the arguments, and what is
-- known afterwards of the result and of the parameters at exit. Both are read off the clauses in the source (`Asked`
-- and `Learnt`).
use Rattle.std.specs.Prelude.{ℕ, ◌≡◌, List}
use contract.Lifetimes.{Lfts}
use Rattle.std.specs.Borrow.{Bor}
use denote.Triple.Clauses.{Lasts, at_exit}
use borrow.Fn.Kinds.{ParamKind, ResultKind, Dens, res_t, In, Out, ended_of}

-- a result x, and what is left in all that was lent, v, meet the contract of a function with these parameters and this
-- result
abbrev pub Meets : {n : ℕ} (ps : List (ParamKind n)) (r : ResultKind n) → Out n ps r →
    (κs : Lfts n) (a : Dens κs ps) → (res_t r κs).Denot → Lasts (ended_of n ps r) κs a → Type 0
Meets {n} ps r Learnt κs a x v = Learnt κs a x (at_exit (ended_of n ps r) κs a v)

-- the contract fixes the answer, of which `see` is what a program can see
pub record ExactTo {n : ℕ} (ps : List (ParamKind n)) (r : ResultKind n)
    {View : Lfts n → Type 0} (see : (κs : Lfts n) → (res_t r κs).Denot → View κs)
    (Asked : In n ps) (Learnt : Out n ps r) : Type 0 where
  -- it asks nothing of the caller
  pub asks_nothing : (κs : Lfts n) (a : Dens κs ps) → Asked κs a
  -- and two answers that meet it are equal, with all that they leave
  pub one : (κs : Lfts n) (a : Dens κs ps) (x y : (res_t r κs).Denot) (v w : Lasts (ended_of n ps r) κs a) →
      Meets ps r Learnt κs a x v → Meets ps r Learnt κs a y w → (see κs x ≡ see κs y) × (v ≡ w)

-- where all of the result can be seen
abbrev pub Exact : {n : ℕ} (ps : List (ParamKind n)) (r : ResultKind n) → In n ps → Out n ps r → Type 0
Exact ps r Asked Learnt = ExactTo ps r (λ κs x. x) Asked Learnt

-- what a program can see of a slice that is handed back: where it lies, which is a block of memory and an offset in it,
-- and its elements. In the logic it has a name too, which belongs to proofs alone
abbrev pub seen : Bor (List ℕ) → (ℕ × ℕ) × List ℕ
seen x = (x.ref_ptr, x.now)
