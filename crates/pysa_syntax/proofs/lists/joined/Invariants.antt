use Rattle.std.proofs.Common.{◌≡◌, ◌++◌, length}
use Rattle.std.specs.Prelude.{reverse}
use Rattle.pysa_syntax.specs.Grammar.{joined}
use Rattle.pysa_syntax.proofs.lists.joined.Given as goal

abbrev pub invariant-each_list : goal.invariant-each_list
invariant-each_list g l = l.out ++ joined (reverse l.rest) ≡ l.fn.first ++ joined l.fn.others

abbrev pub decreases-each_list : goal.decreases-each_list
decreases-each_list g l = length l.rest
