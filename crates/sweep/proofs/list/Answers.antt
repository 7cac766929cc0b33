-- `sweep::list` asks for the pieces of the listing one after the other, hands each to `write`, stays inside its page,
-- and ends.
use Rattle.std.proofs.Common.{◌≡◌, refl, ap, ◌∙◌, ℕ, suc, length, arith}
use lib.ListN.{take}
use Rattle.listing.specs.declared.Cursor.{Cursor}
use Rattle.listing.specs.Swept.{swept_of}
use Rattle.listing.specs.Piece.{cursor, piece_bytes, next_of, cursor_after, written_after}
use Rattle.listing.proofs.Proved.{accepted}
use Rattle.sweep.proofs.Pieces.{room, next_is, starts, fewer, whole}
use Rattle.sweep.proofs.list.Goals.{Then-piece-eq0, Else-piece-eq0}
use Rattle.sweep.proofs.list.Goals as goal

-- no piece is refused, since any line has room in the page
pub unwrap-piece-requires : goal.unwrap-piece-requires
unwrap-piece-requires c =
    accepted _ _ _ _ c.piece.ensures.value (omega (arith, c.loop-page.invariant.0))

pub loop-page-init : goal.loop-page-init
unfolding cursor_after
loop-page-init c =
    let d = c.default-at.ensures in
    (refl, (0, ap (λ (n : ℕ). cursor n c.default-at.result.line) d.0 ∙ ap (cursor 0) d.1))

-- WHAT IS HANDED TO `write` is the piece at the cursor, every byte of it
pub handed : (c : Else-piece-eq0) →
    take c.unwrap-piece.result.bytes c.piece.new.out ≡ piece_bytes c.args.file.now (length c.loop-page.page) c.loop-page.at
handed c = starts _ _ _ _ _ c.unwrap-piece.ensures c.piece.ensures.value c.piece.ensures.out_after

-- WHERE IT ENDS with a piece that has no bytes, the pieces that were written are the whole listing
pub finished : (c : Then-piece-eq0) →
    written_after c.args.file.now (λ i. room) c.loop-page.invariant.1.0 ≡ swept_of c.args.file.now
finished c =
    let l = c.loop-page in
    whole _ _ _ _ _ c.unwrap-piece.ensures c.piece.ensures.value c.piece.ensures.out_after l.invariant.1.0 l.invariant.0
    l.invariant.1.1 c.if-piece-eq0.true

pub loop-page-smaller : goal.loop-page-smaller
loop-page-smaller c =
    fewer _ _ _ _ _ c.unwrap-piece.ensures c.piece.ensures.value c.piece.ensures.out_after c.if-piece-eq0.false

pub loop-page-preserved : goal.loop-page-preserved
unfolding cursor_after
loop-page-preserved c =
    let l = c.loop-page in
    let next = next_is _ _ _ _ _ c.unwrap-piece.ensures c.piece.ensures.value c.piece.ensures.out_after in
    let whole_room = ap (λ (n : ℕ). next_of c.args.file.now n l.at) l.invariant.0 in
    let turn = ap (λ (at : Cursor). next_of c.args.file.now room at) l.invariant.1.1 in
    (omega (arith, c.if-piece-eq0.array_long), (suc l.invariant.1.0, next ∙ whole_room ∙ turn))
