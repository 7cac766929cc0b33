use Rattle.std.proofs.Common.{◌≡◌, Result, Ok, refl, sym, ap, ◌∙◌, rules, arith}
use Rattle.refusal.specs.declared.Refusal.{Refusal}
use Rattle.reading.specs.declared.Insn.{Insn}
use Rattle.reading.specs.declared.Decoded.{Decoded}
use Rattle.reading.specs.Reading.{answer_of, accepted_as}
use Rattle.reading.proofs.Answer.{answer_one}
use Rattle.inverse.proofs.Proved.{encoded, refused}
use Rattle.encode.proofs.encode.Goals as goal

-- what is not read is not the meaning
not_read : {r : Result Insn Refusal} {i : Insn} {d : Decoded} → answer_of r ≡ d → ¬ (r ≡ Ok i) → ¬ (d ≡ accepted_as i)
not_read {r} {i} answers other e = other (answer_one r (Ok i) (answers ∙ e))

-- the candidate has the reading
pub returns-in-Ok : goal.returns-in-Ok
returns-in-Ok c =
    let is_same = c.same_insn.ensures.0 c.if-same_insn.true in
    encoded _ _ _ _ (c.candidate-w.ensures _) (search rules)
    (sym c.decode_word.ensures ∙ (ap answer_of c.in-Ok.is ∙ ap accepted_as is_same))

-- it has another
pub returns-in_default : goal.returns-in_default
returns-in_default c =
    refused _ _ _ _ (c.candidate-w.ensures _)
    (not_read c.decode_word.ensures (λ e. grind (arith, c.same_insn.ensures.1))) _ refl refl

-- it is refused
pub returns-in_default-2 : goal.returns-in_default-2
returns-in_default-2 c =
    refused _ _ _ _ (c.candidate-w.ensures _) (not_read c.decode_word.ensures (λ e. grind arith)) _ refl refl
