-- The contract of crate `forms`, which reads a word by its shape: whatever type without references says why a shape is
-- refused.
use Rattle.std.specs.Prelude.{◌≡◌, []}
use denote.RattleType.{RattleType}
use denote.Param.Laws.{Laws, IsCopy}
use mir.Syntax.{Dict}
use Rattle.std.specs.declared.clone.Clone as clone
use Rattle.contracts.specs.Exact.{Exact}
use Rattle.forms.proofs.read.Kinds as read-kinds
use Rattle.forms.proofs.read.Reads as read

pub record Forms : Type 2 where
  pub read : (R : RattleType) (l : Laws R) (c : IsCopy R) (copies : clone.Ghosts R.Denot) (d : Dict) → R.lives ≡ [] →
      Exact (read-kinds.ps R l c) (read-kinds.r R l c) (read.Asked R l c copies d) (read.Learnt R l c copies d)
