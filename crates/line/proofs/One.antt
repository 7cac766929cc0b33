-- No two answers are one number and one length.
use Rattle.std.proofs.Common.{◌≡◌, ℕ, ap, refl, Result, Ok, Err}
use Rattle.refusal.specs.declared.Refusal.{Refusal}
use Rattle.refusal.specs.Refusals.{number_in}
use Rattle.refusal.proofs.One.{told_apart}
use Rattle.line.specs.Line.{Printed, printing_of}

numbered : (x : Result ℕ Refusal) → (printing_of x).number ≡ number_in x
numbered (Ok n) = refl
numbered (Err r) = refl

pub printing_one : (x y : Result ℕ Refusal) → printing_of x ≡ printing_of y → x ≡ y
printing_one = told_apart printing_of (λ p. p.number) numbered (λ m n e. ap (λ (p : Printed). p.length) e)
