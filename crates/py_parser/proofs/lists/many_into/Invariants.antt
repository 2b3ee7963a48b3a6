use Rattle.std.proofs.Common.{◌≤◌, ℕ, List, length}
use Rattle.std.specs.Fn.{FnReturnsAt}
use Rattle.phrases.specs.Reading.{Outcome}
use Rattle.phrases.specs.Loops.{Tells}
use Rattle.py_parser.specs.Lists.{Adds}
use Rattle.py_parser.proofs.Added.{Added}
use Rattle.py_parser.proofs.lists.many_into.Given as goal

abbrev pub invariant-each_turn : goal.invariant-each_turn
invariant-each_turn g l =
    (length l.rest ≤ length l.fn.tokens)
    × ((class : _ → ℕ) (first : List ℕ) (reader : List _ → Outcome _ (List _)) → Tells (λ t b. FnReturnsAt g.B.Fn l.fn.begins t b) class first → Adds (λ v. v.items) (λ all ts r. goal.F-post g l.fn.next ts all r) reader
    → Added class first reader l.fn.tokens l.fn.before.items l.all.items l.rest)

abbrev pub decreases-each_turn : goal.decreases-each_turn
decreases-each_turn g l = length l.rest
