-- What an accepted piece of the listing is, in a page of this room.
use Rattle.std.proofs.Common.{◌≡◌, refl, sym, ap, subst, ◌∙◌, ℕ, ◌<◌, List, length, Result, Ok}
use lib.ListN.{take, drop}
use lib.Seq.{take_at}
use Rattle.buffers.specs.Bytes.{over}
use Rattle.listing.specs.declared.Cursor.{Cursor}
use Rattle.listing.specs.declared.extent.Piece.{Piece}
use Rattle.listing.specs.Swept.{swept_of}
use Rattle.listing.specs.Piece.{Listed, piece_bytes, next_of, listing_of, piece_of, cursor_after, written_after}
use Rattle.listing.specs.Theorems.{Ended}
use Rattle.listing.proofs.Rest.{rest_rows}
use Rattle.listing.proofs.Proved.{theorems, falls}

-- the bytes of the page
abbrev pub room : ℕ
room = 4096

module _ (file page page' : List ℕ) (at : Cursor) {r : Result Piece _} (p : Piece) (is_accepted : r ≡ Ok p)
    (is_piece : listing_of at r ≡ piece_of file (length page) at)
    (left : page' ≡ over (piece_bytes file (length page) at) page) where
  value : listing_of at (Ok p) ≡ piece_of file (length page) at
  value = rw is_accepted at is_piece

  bytes_are : p.bytes ≡ length (piece_bytes file (length page) at)
  bytes_are = ap (λ (l : Listed). l.bytes) value

  pub next_is : p.next ≡ next_of file (length page) at
  next_is = ap (λ (l : Listed). l.next) value

  -- the piece at the cursor, every byte of it, is at the page's start
  pub starts : take p.bytes page' ≡ piece_bytes file (length page) at
  starts =
      let bytes = piece_bytes file (length page) at in
      ap (λ (n : ℕ). take n page') bytes_are ∙ ap (take (length bytes)) left
      ∙ take_at bytes (drop (length bytes) page) (length bytes) refl

  -- one with bytes leaves fewer lines
  pub fewer : ¬ (p.bytes ≡ 0) → length (rest_rows file p.next) < length (rest_rows file at)
  fewer some =
      subst (λ c. length (rest_rows file c) < length (rest_rows file at)) (sym next_is)
      (falls file (length page) at (λ z. some (bytes_are ∙ z)))

  -- one without comes when the pieces that were written are the whole listing
  pub whole : (k : ℕ) → length page ≡ room → at ≡ cursor_after file (λ i. room) k → p.bytes ≡ 0 →
      written_after file (λ i. room) k ≡ swept_of file
  whole k is_room is_next none =
      let accepted = sym (ap (λ (l : Listed). l.number) value) in
      let ended = theorems.empty file (length page) at accepted (sym bytes_are ∙ none) in
      (theorems.pieces file (λ i. room)).whole k (subst (λ (c : Cursor). Ended file c) is_next ended)
