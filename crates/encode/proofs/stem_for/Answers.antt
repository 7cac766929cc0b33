use Rattle.std.proofs.Common.{arith}
use Rattle.encode.proofs.Candidates.{not_li, li_signed, li_unsigned}
use Rattle.encode.proofs.stem_for.Goals as goal
use Rattle.encode.proofs.stem_for.Goals.{else-m-eq-LI-via-then-m-eq-LI+else-not-is_signed}
use Rattle.encode.proofs.stem_for.Goals.{else-m-eq-LI-via-else-m-eq-LI}

pub returns-then-not-is_signed : goal.returns-then-not-is_signed
returns-then-not-is_signed c = li_unsigned _ _ c.if-m-eq-LI.true (grind arith)

pub returns : goal.returns
returns c =
    elim c.else-m-eq-LI.branch [
      | else-m-eq-LI-via-then-m-eq-LI+else-not-is_signed w ↦
          li_signed _ _ _ w.if-m-eq-LI.true (grind arith) c.stem_of.ensures
      | else-m-eq-LI-via-else-m-eq-LI w ↦
          not_li _ _ _ w.if-m-eq-LI.false c.stem_of.ensures
    ]
