-- What the private functions of packing and unpacking answer.
use Rattle.std.specs.Prelude.{◌≡◌, ℕ, List, ◌++◌, take, drop}
use Rattle.reading.specs.declared.Insn.{Insn}
use Rattle.buffers.specs.Bytes.{low_bytes}
use Rattle.record.specs.declared.Piece.{Piece}
use Rattle.record.specs.Record.{head_bytes, effect_bytes, operand_bytes}

-- the bytes of a piece
abbrev pub bytes_of : {n : ℕ} → Piece n → List ℕ
bytes_of p = p.bytes ++ low_bytes 8 p.value

-- n bytes from a place on
abbrev pub part : ℕ → ℕ → List ℕ → List ℕ
part at n l = take n (drop at l)

-- the bytes of a reading up to the name are there
pub record Holds (i : Insn) (l : List ℕ) : Type 0 where
  pub head : head_bytes i ≡ part 0 12 l
  pub effect : effect_bytes i.effect ≡ part 12 12 l
  pub operands : operand_bytes i ≡ part 24 40 l
