use Rattle.std.proofs.Common.{◌≡◌, ◌≤◌, ℕ, List, Option, length}
use Rattle.std.specs.Borrow.{Bor}
use Rattle.phrases.specs.Reading.{Outcome}
use Rattle.phrases.specs.Loops.{TellsIn, ReadsNext}
use Rattle.phrases.proofs.Loops.{LeftIn}
use Rattle.phrases.proofs.read.series.Given as goal

abbrev pub invariant-each_item : goal.invariant-each_item
invariant-each_item g l =
    (length l.rest ≤ length l.fn.tokens)
    × ((class : _ → ℕ) (first : _ → List ℕ) (reader : _ → List _ → Outcome _ _) (next : _ → _ → Option _) → TellsIn (λ s t b. (p : Bor _) × (p.now ≡ t) × goal.B-post g l.fn.begins s p b) class first
    → ((s : _) → ReadsNext (λ ts r. goal.F-post g l.fn.item s ts r) (reader s) (next s)) → LeftIn class first reader next l.fn.start l.fn.tokens l.items l.state l.rest)

abbrev pub decreases-each_item : goal.decreases-each_item
decreases-each_item g l = length l.rest
