use Rattle.std.proofs.Common.{◌≡◌, ◌+◌, length, refl, arith, rules}
use Rattle.buffers.specs.Bytes.{low_bytes}
use Rattle.buffers.proofs.Laws.{first_at, next_at}
use Rattle.record.proofs.Piece.put.Goals as goal

pub returns : goal.returns
returns g c =
    let a = c.args in
    let p = a.self.bytes in
    let size : length p ≡ g.row.N = search rules in
    next_at a.at (a.at + g.row.N) p (low_bytes 8 a.self.value) a.«record».now (omega (arith, size)) (omega arith)
    (first_at a.at p a.«record».now (omega (arith, size)) refl c.put.ensures) refl c.put8.ensures
