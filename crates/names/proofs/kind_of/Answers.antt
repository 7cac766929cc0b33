-- `names::kind_of` meets its contract: the candidate's own name decides.
use Rattle.std.proofs.Common.{rules}
use Rattle.std.proofs.lemmas.Slice.Eq.{slice_eq-Decides}
use Rattle.std.proofs.lemmas.Bool.Decides.{Decides-eqb}
use Rattle.names.proofs.Tables.{kept_is}
use Rattle.names.proofs.kind_of.Goals as goal

pub returns : goal.returns
returns c =
    kept_is c.args.name c.candidate.result c.filter.result c.candidate.ensures c.filter.ensures
    (λ x b q. search (rules, slice_eq-Decides Decides-eqb))
