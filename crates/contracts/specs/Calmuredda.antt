-- The contracts of crate `calmuredda`, the boundary for C.
use Rattle.contracts.specs.Exact.{Exact}
use Rattle.calmuredda.proofs.calmuredda_decode.Kinds as decode-kinds
use Rattle.calmuredda.proofs.calmuredda_decode.Reads as decode
use Rattle.calmuredda.proofs.calmuredda_encode.Kinds as encode-kinds
use Rattle.calmuredda.proofs.calmuredda_encode.Reads as encode
use Rattle.calmuredda.proofs.calmuredda_line.Kinds as line-kinds
use Rattle.calmuredda.proofs.calmuredda_line.Reads as line
use Rattle.calmuredda.proofs.calmuredda_section_check.Kinds as check-kinds
use Rattle.calmuredda.proofs.calmuredda_section_check.Reads as check
use Rattle.calmuredda.proofs.calmuredda_section_count.Kinds as count-kinds
use Rattle.calmuredda.proofs.calmuredda_section_count.Reads as count
use Rattle.calmuredda.proofs.calmuredda_section_flags.Kinds as flags-kinds
use Rattle.calmuredda.proofs.calmuredda_section_flags.Reads as flags
use Rattle.calmuredda.proofs.calmuredda_section_address.Kinds as address-kinds
use Rattle.calmuredda.proofs.calmuredda_section_address.Reads as address
use Rattle.calmuredda.proofs.calmuredda_section_body.Kinds as body-kinds
use Rattle.calmuredda.proofs.calmuredda_section_body.Reads as body
use Rattle.calmuredda.proofs.calmuredda_block.Kinds as block-kinds
use Rattle.calmuredda.proofs.calmuredda_block.Reads as block
use Rattle.calmuredda.proofs.calmuredda_page.Kinds as page-kinds
use Rattle.calmuredda.proofs.calmuredda_page.Reads as page
use Rattle.calmuredda.proofs.calmuredda_listing.Kinds as listing-kinds
use Rattle.calmuredda.proofs.calmuredda_listing.Reads as listing

pub record Calmuredda : Type 0 where
  pub decode : Exact decode-kinds.ps decode-kinds.r decode.Asked decode.Learnt
  pub encode : Exact encode-kinds.ps encode-kinds.r encode.Asked encode.Learnt
  pub line : Exact line-kinds.ps line-kinds.r line.Asked line.Learnt
  pub section_check : Exact check-kinds.ps check-kinds.r check.Asked check.Learnt
  pub section_count : Exact count-kinds.ps count-kinds.r count.Asked count.Learnt
  pub section_flags : Exact flags-kinds.ps flags-kinds.r flags.Asked flags.Learnt
  pub section_address : Exact address-kinds.ps address-kinds.r address.Asked address.Learnt
  pub section_body : Exact body-kinds.ps body-kinds.r body.Asked body.Learnt
  pub block : Exact block-kinds.ps block-kinds.r block.Asked block.Learnt
  pub page : Exact page-kinds.ps page-kinds.r page.Asked page.Learnt
  pub listing : Exact listing-kinds.ps listing-kinds.r listing.Asked listing.Learnt
