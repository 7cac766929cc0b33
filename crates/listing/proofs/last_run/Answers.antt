use Rattle.listing.proofs.Ranges.{ran_last}
use Rattle.listing.proofs.last_run.Goals as goal

pub returns : goal.returns
returns c = ran_last c.args.file.now c.args.out.now c.last-size.ensures c.from.ensures
