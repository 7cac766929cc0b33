-- A record by its answer's number.
use Rattle.std.proofs.Common.{◌≡◌, ℕ, zero, suc, refl, ap}
use Rattle.reading.specs.declared.Decoded.{Decoded}
use Rattle.record.specs.Record.{bytes_by, number_bytes, insn_bytes, record_of}

pub refused_bytes : (d : Decoded) → ¬ (d.number ≡ 0) → record_of d ≡ number_bytes d.number
unfolding record_of
refused_bytes d h = go d.number h
  where
    go : (n : ℕ) → ¬ (n ≡ 0) → bytes_by n d.insn ≡ number_bytes n
    go zero k = absurd (k refl)
    go (suc n) k = refl

pub accepted_bytes : (d : Decoded) → d.number ≡ 0 → record_of d ≡ insn_bytes d.insn
unfolding record_of
accepted_bytes d e = ap (λ (n : ℕ). bytes_by n d.insn) e
