use Rattle.std.proofs.Common.{◌≡◌, ◌++◌, length}
use Rattle.std.specs.Prelude.{reverse}
use Rattle.pysa_syntax.proofs.lists.reversed.Given as goal

abbrev pub invariant-each_item : goal.invariant-each_item
invariant-each_item g l = l.out ++ reverse l.rest ≡ reverse l.fn.items

abbrev pub decreases-each_item : goal.decreases-each_item
decreases-each_item g l = length l.rest
