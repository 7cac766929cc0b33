-- The contracts of crate `listing`, the listing of a section file.
use Rattle.contracts.specs.Exact.{Exact}
use Rattle.listing.proofs.piece.Kinds as piece-kinds
use Rattle.listing.proofs.piece.Reads as piece

pub record Listing : Type 0 where
  pub piece : Exact piece-kinds.ps piece-kinds.r piece.Asked piece.Learnt
