use Rattle.std.proofs.Common.{◌≡◌, ◌+◌, min, take}
use Rattle.std.specs.List.{sum_by}
use Rattle.project.specs.Callables.{defined, open_stmt}
use Rattle.project.proofs.callables.callables_of.Given as goal

abbrev pub invariant-loop-stmt : goal.invariant-loop-stmt
invariant-loop-stmt l = l.count ≡ min (1 + sum_by (λ s. defined (open_stmt s)) (take l.stmt-index l.stmt-items)) 18446744073709551615
