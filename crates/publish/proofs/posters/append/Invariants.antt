use Rattle.std.proofs.Common.{◌≡◌, [], drop}
use Rattle.publish.proofs.posters.append.Given as goal

abbrev pub invariant-loop : goal.invariant-loop
invariant-loop g l = (l.writer.desk ≡ l.initial.writer.desk) × (drop l.writer.behind l.writer.log.items ≡ []) × (l.post ≡ l.initial.post)
