use Rattle.std.proofs.Common.{ℤ, ap, ◌∙◌, to_z-of_z, w64, rules}
use Rattle.word.proofs.Signed.{signed_is}
use Rattle.reading.specs.declared.Effect.TheVariants as effect
use Rattle.record.proofs.effect_by.Goals as goal

pub returns-in-2 : goal.returns-in-2
returns-in-2 c =
    let a = c.args in
    rw c.in-2.is
    (ap (effect.AddImm a.first a.second)
    (to_z-of_z {w = w64} (search rules) ∙ c.cast_signed.ensures ∙ signed_is a.v (search rules)))

pub returns-in-3 : goal.returns-in-3
returns-in-3 c =
    let a = c.args in
    rw c.in-3.is
    (ap (λ (z : ℤ). effect.Mem a.first a.second z a.width)
    (to_z-of_z {w = w64} (search rules) ∙ c.cast_signed-in-3.ensures ∙ signed_is a.v (search rules)))
