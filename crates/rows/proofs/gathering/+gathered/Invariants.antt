use Rattle.std.proofs.Common.{length}
use Rattle.rows.proofs.gathering.+gathered.Given as goal

abbrev pub decreases-gathered : goal.decreases-gathered
decreases-gathered l = length l.entries.now
