use Rattle.std.proofs.Common.{◌≡◌}
use Rattle.taint_model.specs.Lists.{empty_trees}
use Rattle.taint_model.proofs.lists.Trees.empty.Given as goal

abbrev pub invariant-loop : goal.invariant-loop
invariant-loop l = l.trees.items ≡ empty_trees l.counter
