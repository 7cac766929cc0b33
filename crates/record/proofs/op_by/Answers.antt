use Rattle.std.proofs.Common.{ℤ, ap, ◌∙◌, to_z-of_z, w64, rules}
use Rattle.word.proofs.Signed.{signed_is}
use Rattle.reading.specs.declared.Op.TheVariants.{Imm, Mem}
use Rattle.record.proofs.op_by.Goals as goal

pub returns-in-3 : goal.returns-in-3
returns-in-3 c =
    rw c.in-3.is
    (ap Imm (to_z-of_z {w = w64} (search rules) ∙ c.cast_signed.ensures ∙ signed_is c.args.v (search rules)))

pub returns-in-4 : goal.returns-in-4
returns-in-4 c =
    let a = c.args in
    rw c.in-4.is
    (ap (λ (z : ℤ). Mem z a.r)
    (to_z-of_z {w = w64} (search rules) ∙ c.cast_signed-in-4.ensures ∙ signed_is a.v (search rules)))
