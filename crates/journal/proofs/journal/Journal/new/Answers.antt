use Rattle.std.proofs.Common.{◌≡◌, ℕ, ◌≤◌, subst, sym, ap, ◌∙◌, arith}
use Rattle.project.specs.Modules.{callables_in}
use Rattle.journal.proofs.Causes.{no_callables}
use Rattle.journal.proofs.journal.Journal.new.Goals as goal

pub invariant_of-result : goal.invariant_of-result
invariant_of-result c =
    let none : callables_in c.new.result ≡ 0 = ap callables_in c.new.ensures ∙ no_callables in
    record { edits = omega arith; text = omega arith; callables = omega arith }
