use Rattle.std.proofs.Common.{◌≡◌, ℕ, true, Option, Some, None, Err, refl, sym, ap, ◌∙◌}
use Rattle.std.specs.Arc.{arc_value}
use Rattle.project.specs.Files.{FileMap, first_over, with_file}
use Rattle.journal.specs.declared.edit.ReadEdit.TheVariants as edits
use Rattle.journal.specs.declared.faults.EditFault.TheVariants.{ProjectFull}
use Rattle.journal.specs.Journal.{JournalParts, edit_fault, is_full}
use Rattle.journal.proofs.Causes.{none_of, over_fault, over_first, over_within}
use Rattle.journal.proofs.journal.Journal.put.Goals as goal

pub returns-in-Ok-clause-free : goal.returns-in-Ok-clause-free
returns-in-Ok-clause-free c =
    let j : JournalParts = record { files = c.self.inside.files; number = c.self.inside.number; kept = c.self.inside.kept } in
    let m : FileMap = with_file c.self.inside.files c.args.path (arc_value c.args.item) c.args.len in
    let counts : first_over m ≡ None = none_of (first_over m) (λ which h. let full = (c.in-Ok.ensures.full which).1 h in cc) in
    let within = sym c.in_ok-few.ensures ∙ c.if-not-few.false in
    sym (over_fault j (edits.Put c.args.path c.args.item c.args.len) None
    (ap (λ k. is_full k c.args.len) c.self.view_is ∙ sym c.is_full.ensures ∙ c.if-is_full.false)
    refl
    (over_within m counts within)
    ∙ ap (λ k. edit_fault k (edits.Put c.args.path c.args.item c.args.len)) c.self.view_is)

pub returns-in-Err-Full-clause-told : goal.returns-in-Err-Full-clause-told
returns-in-Err-Full-clause-told c = λ fault other same.
    let j : JournalParts = record { files = c.self.inside.files; number = c.self.inside.number; kept = c.self.inside.kept } in
    let m : FileMap = with_file c.self.inside.files c.args.path (arc_value c.args.item) c.args.len in
    let full : first_over m ≡ Some c.in-Err-Full.which = (c.in-Err-Full.ensures.full c.in-Err-Full.which).0 (ap Err c.in-Err-Full.field-0-is) in
    let is : ProjectFull c.in-Err-Full.which ≡ fault = cc in
    sym (over_fault j (edits.Put c.args.path c.args.item c.args.len) (Some c.in-Err-Full.which)
    (ap (λ k. is_full k c.args.len) c.self.view_is ∙ sym c.is_full.ensures ∙ c.if-is_full.false)
    refl
    (over_first m c.in-Err-Full.which full)
    ∙ ap (λ k. edit_fault k (edits.Put c.args.path c.args.item c.args.len)) c.self.view_is)
    ∙ ap Some is
