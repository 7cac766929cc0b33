use Rattle.std.proofs.Common.{◌≡◌, length, arith, rules}
use Rattle.buffers.specs.Bytes.{low_bytes}
use Rattle.laws.proofs.Says.{ends_no}
use Rattle.record.proofs.Pieces.{starts, left_part, then_number}
use Rattle.record.proofs.Piece.is_at.Goals as goal

pub returns-then-starts_with : goal.returns-then-starts_with
returns-then-starts_with g c =
    let a = c.args in
    let p = a.self.bytes in
    let l = a.«record».now in
    let size : length p ≡ g.row.N = search rules in
    let first = (starts a.at g.row.N p l size (omega arith) c.starts_with.ensures.value).0 c.if-starts_with.true in
    then_number a.at g.row.N p l a.self.value c.get8.result size (omega arith) (search rules) (search rules) first
    (c.get8.ensures.result_value (omega arith))

pub returns-else-starts_with : goal.returns-else-starts_with
returns-else-starts_with g c =
    let a = c.args in
    let p = a.self.bytes in
    let l = a.«record».now in
    let size : length p ≡ g.row.N = search rules in
    ends_no (starts a.at g.row.N p l size (omega arith) c.starts_with.ensures.value)
    (left_part a.at g.row.N 8 p (low_bytes 8 a.self.value) l size) c.if-starts_with.false
