-- What private functions promise each other. No public contract cites this file, so it need not be believed.
use Rattle.std.specs.Prelude.{ℕ, Result}
use Rattle.refusal.specs.declared.Refusal.{Refusal}
use Rattle.inverse.specs.Encoded.{encoding_of}
use Rattle.calmuredda.specs.Boundary.{answer}

-- number and word of an encoder's answer, in one
abbrev pub both : Result ℕ Refusal → ℕ
both r = answer (encoding_of r).number (encoding_of r).word
