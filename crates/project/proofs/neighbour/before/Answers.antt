use Rattle.project.proofs.Ends.{before_is}
use Rattle.project.proofs.neighbour.before.Goals as goal

pub returns : goal.returns
returns c = before_is c.strip_suffix.result c.args.ending.now c.args.path.now c.strip_suffix.ensures.cases
