use Rattle.std.proofs.Common.{ℕ, ◌≡◌, refl, ◌/◌, ◌^◌, bit_and, not, nat_eq, arith}
use Rattle.std.proofs.lemmas.Grind.{and_numeral, common_steps}
use Rattle.std.proofs.lemmas.Nat.{bit_set_by_shift}
use Rattle.body.specs.Body.{bit_on}
use Rattle.body.proofs.view_of.Goals as goal

-- a mask of one bit finds it
masked : (n k : ℕ) → not (nat_eq (bit_and n (2 ^ k)) 0) ≡ bit_on (2 ^ k) n
masked n k = grind (arith, common_steps, bit_set_by_shift n k, and_numeral (n / 2 ^ k) 0 refl)

pub returns : goal.returns
returns c = rw (masked c.args.flags 0, masked c.args.flags 1)
