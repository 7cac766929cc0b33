-- What specs/Theorems.antt states, proved.
use Rattle.body.specs.Theorems.{Theorems}
use Rattle.body.proofs.Words.{refused_most}

pub theorems : Theorems
theorems = record { few = refused_most }
