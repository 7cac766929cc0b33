-- At one cursor, no two answers are one number, one count of bytes and one cursor.
use Rattle.std.proofs.Common.{◌≡◌, ap, refl, Result, Ok, Err}
use Rattle.refusal.specs.declared.Refusal.{Refusal}
use Rattle.refusal.specs.Refusals.{number_in}
use Rattle.refusal.proofs.One.{told_apart}
use Rattle.listing.specs.declared.Cursor.{Cursor}
use Rattle.listing.specs.declared.extent.Piece.{Piece}
use Rattle.listing.specs.Piece.{Listed, listing_of}

module _ (c : Cursor) where
  numbered : (x : Result Piece Refusal) → (listing_of c x).number ≡ number_in x
  numbered (Ok p) = refl
  numbered (Err r) = refl

  piece_one : (p q : Piece) → listing_of c (Ok p) ≡ listing_of c (Ok q) → p ≡ q
  piece_one p q e =
      let bytes : p.bytes ≡ q.bytes = ap (λ (d : Listed). d.bytes) e in
      let next : p.next ≡ q.next = ap (λ (d : Listed). d.next) e in
      λ i. record { bytes = bytes i; next = next i }

  pub listing_one : (x y : Result Piece Refusal) → listing_of c x ≡ listing_of c y → x ≡ y
  listing_one = told_apart (listing_of c) (λ d. d.number) numbered piece_one
