-- No two answers are one number and one reading.
use Rattle.std.proofs.Common.{◌≡◌, ap, refl, Result, Ok, Err}
use Rattle.refusal.specs.declared.Refusal.{Refusal}
use Rattle.refusal.specs.Refusals.{number_in}
use Rattle.refusal.proofs.One.{told_apart}
use Rattle.reading.specs.declared.Insn.{Insn}
use Rattle.reading.specs.declared.Decoded.{Decoded}
use Rattle.reading.specs.Reading.{answer_of}

numbered : (x : Result Insn Refusal) → (answer_of x).number ≡ number_in x
numbered (Ok i) = refl
numbered (Err r) = refl

pub answer_one : (x y : Result Insn Refusal) → answer_of x ≡ answer_of y → x ≡ y
answer_one = told_apart answer_of (λ d. d.number) numbered (λ i j e. ap (λ (d : Decoded). d.insn) e)
