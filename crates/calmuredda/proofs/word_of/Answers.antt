use Rattle.std.proofs.Common.{◌≡◌, ◌∙◌, sym, ap, subst, arith, ℕ, Bool, List, Result, Err}
use Rattle.std.proofs.lemmas.Grind.{common_steps}
use Rattle.refusal.specs.declared.Refusal.{Refusal}
use Rattle.refusal.proofs.One.{number_above_0}
use Rattle.reading.specs.declared.Insn.{Insn}
use Rattle.reading.specs.Reading.{accepted_as, answer_of}
use Rattle.inverse.specs.Encoded.{encoding_of}
use Rattle.record.specs.Unpacked.{unpacked}
use Rattle.calmuredda.specs.Boundary.{EncodesRecord}
use Rattle.calmuredda.specs.Private.Steps.{both}
use Rattle.calmuredda.proofs.Encoded.{refused, unpacked_to}
use Rattle.calmuredda.proofs.word_of.Goals as goal

-- what is refused as a record has no word
no_record : (l : List ℕ) (va : ℕ) (wide : Bool) (r : Refusal) (x : Result Insn Refusal) → x ≡ Err r →
    answer_of x ≡ unpacked l → EncodesRecord l va wide (both (Err r))
no_record l va wide r x is e =
    refused l va wide (answer_of (Err r)) (sym e ∙ ap answer_of is) (λ z. absurd (grind (arith, number_above_0 r)))

pub returns-in_err-insn : goal.returns-in_err-insn
returns-in_err-insn c =
    let refusal = c.in_err-insn.field-0.0 in
    let handed_on : Err refusal ≡ c.from_residual.result = grind (arith, common_steps) in
    subst (λ x. EncodesRecord c.args.«record».now c.args.va c.args.wide (both x)) handed_on
    (no_record _ _ _ refusal c.unpack.result c.in_err-insn.was c.unpack.ensures)

pub returns : goal.returns
returns c =
    let reading : unpacked c.args.«record».now ≡ accepted_as c.in_ok-insn.insn = sym c.in_ok-insn.ensures in
    unpacked_to _ _ _ c.in_ok-insn.insn (encoding_of c.encode.result) reading c.encode.ensures
