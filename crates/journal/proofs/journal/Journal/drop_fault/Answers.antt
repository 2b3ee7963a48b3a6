use Rattle.std.proofs.Common.{◌≡◌, ℕ, Option, Some, None, false, sym, ap, ◌∙◌}
use Rattle.std.specs.FinMap.{remove}
use Rattle.project.specs.declared.faults.Which.TheVariants as which
use Rattle.journal.specs.declared.edit.ReadEdit.TheVariants as edits
use Rattle.journal.specs.Journal.{JournalParts, edit_fault, is_full}
use Rattle.journal.proofs.Causes.{none_over_drop, over_callables, over_fault, over_none, present}
use Rattle.journal.proofs.journal.Journal.drop_fault.Goals as goal

pub returns-then-callables_without-gt-CALLABLES_LIMIT : goal.returns-then-callables_without-gt-CALLABLES_LIMIT
returns-then-callables_without-gt-CALLABLES_LIMIT c =
    let j : JournalParts = record { files = c.self.inside.files; number = c.self.inside.number; kept = c.self.inside.kept } in
    over_fault j (edits.Drop c.args.path.now) (Some which.Callables)
    (ap (λ k. is_full k 0) c.self.view_is ∙ sym c.is_full.ensures ∙ c.if-is_full.false)
    (present c.self.inside.files c.args.path.now _ c.in-Some.ensures)
    (over_callables (remove c.self.inside.files c.args.path.now) c.callables_without.result (none_over_drop c.self.inside.files c.args.path.now c.know.ensures) c.callables_without.ensures c.if-callables_without-gt-CALLABLES_LIMIT.true)
    ∙ ap (λ k. edit_fault k (edits.Drop c.args.path.now)) c.self.view_is

pub returns : goal.returns
returns c =
    let j : JournalParts = record { files = c.self.inside.files; number = c.self.inside.number; kept = c.self.inside.kept } in
    over_fault j (edits.Drop c.args.path.now) None
    (ap (λ k. is_full k 0) c.self.view_is ∙ sym c.is_full.ensures ∙ c.if-is_full.false)
    (present c.self.inside.files c.args.path.now _ c.in-Some.ensures)
    (over_none (remove c.self.inside.files c.args.path.now) c.callables_without.result (none_over_drop c.self.inside.files c.args.path.now c.know.ensures) c.callables_without.ensures c.if-callables_without-gt-CALLABLES_LIMIT.false)
    ∙ ap (λ k. edit_fault k (edits.Drop c.args.path.now)) c.self.view_is
