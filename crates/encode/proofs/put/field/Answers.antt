use Rattle.std.proofs.Common.{ℕ, ◌*◌, ◌^◌, ◌<◌, ◌≤◌, ap, ◌∙◌, arith}
use Rattle.std.proofs.lemmas.Nat.{mul-le}
use Rattle.std.proofs.Math.Pow.{pow_mono}
use native.Mathlib.Nat.{mod-eq_of_lt}
use Rattle.encode.proofs.put.field.Goals as goal

-- no bit is lost
pub returns : goal.returns
returns c =
    let small : c.low.result ≤ 31 = omega (arith, c.low.ensures) in
    let most : 2 ^ c.args.bit ≤ 2 ^ 21 = pow_mono c.requires in
    let room : c.low.result * 2 ^ c.args.bit < 2 ^ 32 = omega (arith, mul-le _ _ _ _ small most) in
    mod-eq_of_lt room ∙ ap (λ (n : ℕ). n * 2 ^ c.args.bit) c.low.ensures
