use Rattle.std.proofs.Common.{◌≤◌, ℕ, List, length}
use Rattle.std.specs.Fn.{FnReturnsAt}
use Rattle.phrases.specs.Reading.{Outcome}
use Rattle.phrases.specs.Loops.{Tells, Reads}
use Rattle.phrases.proofs.Loops.{Left}
use Rattle.phrases.proofs.read.many.Given as goal

abbrev pub invariant-each_item : goal.invariant-each_item
invariant-each_item g l =
    (length l.rest ≤ length l.fn.tokens)
    × ((class : _ → ℕ) (first : List ℕ) (reader : List _ → Outcome _ _) → Tells (λ t b. FnReturnsAt g.B.Fn l.fn.begins t b) class first → Reads (λ ts r. goal.F-post g l.fn.item ts r) reader
    → Left class first reader l.fn.tokens l.items l.rest)

abbrev pub decreases-each_item : goal.decreases-each_item
decreases-each_item g l = length l.rest
