use Rattle.std.proofs.Common.{arith}
use Rattle.encode.proofs.Arms.{past_all}
use Rattle.encode.proofs.stems.stem_of.Goals as goal

-- no row has such a mnemonic
pub returns-in_default : goal.returns-in_default
returns-in_default c = past_all _ _ (omega arith) (omega (arith, c.in_default))
