-- The contracts of crate `pages`, pages.
use Rattle.contracts.specs.Exact.{Exact}
use Rattle.pages.proofs.page.Kinds as page-kinds
use Rattle.pages.proofs.page.Reads as page

pub record Pages : Type 0 where
  pub page : Exact page-kinds.ps page-kinds.r page.Asked page.Learnt
