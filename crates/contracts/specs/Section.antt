-- The contracts of crate `section`, the section file.
use Rattle.contracts.specs.Exact.{Exact, ExactTo, seen}
use Rattle.section.proofs.check.Kinds as check-kinds
use Rattle.section.proofs.check.Reads as check
use Rattle.section.proofs.count.Kinds as count-kinds
use Rattle.section.proofs.count.Reads as count
use Rattle.section.proofs.flags.Kinds as flags-kinds
use Rattle.section.proofs.flags.Reads as flags
use Rattle.section.proofs.refusal.Kinds as refusal-kinds
use Rattle.section.proofs.refusal.Reads as refusal
use Rattle.section.proofs.address.Kinds as address-kinds
use Rattle.section.proofs.address.Reads as address
use Rattle.section.proofs.body.Kinds as body-kinds
use Rattle.section.proofs.body.Reads as body
use Rattle.section.proofs.start.Kinds as start-kinds
use Rattle.section.proofs.start.Reads as start

pub record Section : Type 0 where
  pub check : Exact check-kinds.ps check-kinds.r check.Asked check.Learnt
  pub count : Exact count-kinds.ps count-kinds.r count.Asked count.Learnt
  pub flags : Exact flags-kinds.ps flags-kinds.r flags.Asked flags.Learnt
  pub refusal : Exact refusal-kinds.ps refusal-kinds.r refusal.Asked refusal.Learnt
  pub address : Exact address-kinds.ps address-kinds.r address.Asked address.Learnt
  -- of the part that is handed back, where it lies and the bytes in it
  pub body : ExactTo body-kinds.ps body-kinds.r (λ κs x. seen x) body.Asked body.Learnt
  pub start : Exact start-kinds.ps start-kinds.r start.Asked start.Learnt
