-- No two answers are one number and one word.
use Rattle.std.proofs.Common.{◌≡◌, ℕ, ap, refl, Result, Ok, Err}
use Rattle.refusal.specs.declared.Refusal.{Refusal}
use Rattle.refusal.specs.Refusals.{number_in}
use Rattle.refusal.proofs.One.{told_apart}
use Rattle.inverse.specs.Encoded.{Encoded, encoding_of}

numbered : (x : Result ℕ Refusal) → (encoding_of x).number ≡ number_in x
numbered (Ok w) = refl
numbered (Err r) = refl

pub encoding_one : (x y : Result ℕ Refusal) → encoding_of x ≡ encoding_of y → x ≡ y
encoding_one = told_apart encoding_of (λ e. e.number) numbered (λ v w e. ap (λ (d : Encoded). d.word) e)
