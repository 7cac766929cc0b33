-- No two refusals have one number, and none has 0; so where an answer is said as a number and values, it can be told
-- from any other.
use Rattle.std.proofs.Common.{◌≡◌, ◌∙◌, sym, ap, ℕ, ◌<◌, refl, arith, Result, Ok, Err}
use Rattle.std.proofs.lemmas.Grind.{common_steps}
use Rattle.refusal.specs.declared.Refusal.{Refusal}
use Rattle.refusal.specs.Refusals.{number_of, number_in}

pub number_one : (r s : Refusal) → number_of r ≡ number_of s → r ≡ s
number_one r s e = grind (arith, common_steps)

pub number_above_0 : (r : Refusal) → 0 < number_of r
number_above_0 r = grind (arith, common_steps)

-- what is said of an answer has its number, and of what is accepted the value
pub told_apart : {A B : Type 0} (said : Result A Refusal → B) (number : B → ℕ) →
    ((x : Result A Refusal) → number (said x) ≡ number_in x) →
    ((a b : A) → said (Ok a) ≡ said (Ok b) → a ≡ b) → (x y : Result A Refusal) → said x ≡ said y → x ≡ y
told_apart said number numbered value (Ok a) (Ok b) e = ap Ok (value a b e)
told_apart said number numbered value (Ok a) (Err s) e =
    absurd (omega (arith, sym (numbered (Ok a)) ∙ ap number e ∙ numbered (Err s), number_above_0 s))
told_apart said number numbered value (Err r) (Ok b) e =
    absurd (omega (arith, sym (numbered (Err r)) ∙ ap number e ∙ numbered (Ok b), number_above_0 r))
told_apart said number numbered value (Err r) (Err s) e =
    ap Err (number_one r s (sym (numbered (Err r)) ∙ ap number e ∙ numbered (Err s)))

-- where there is only one value, the number is all that an answer says
pub number_in_one : {A : Type 0} → ((a b : A) → a ≡ b) → (x y : Result A Refusal) → number_in x ≡ number_in y → x ≡ y
number_in_one only = told_apart number_in (λ n. n) (λ x. refl) (λ a b e. only a b)
