-- What one command comes to.
use Rattle.std.proofs.Common.{◌≡◌, ◌≢◌, ◌+◌, ℕ, Bool, length, Option, None, Some, sym, ap, subst, ◌∙◌}
use Rattle.std.specs.Prelude.{option_map}
use Rattle.std.specs.Arc.{arc_value}
use Rattle.std.specs.Global.{Global}
use Rattle.std.specs.declared.sync.Arc.{Arc}
use Rattle.rv_names.specs.Keys.{Bytes}
use Rattle.script.specs.declared.command.Command.TheVariants as commands
use Rattle.script.specs.declared.command.Command.{Command}
use Rattle.script.specs.declared.command.Query.{Query}
use Rattle.project.specs.declared.item.Item.{Item}
use Rattle.project.specs.Files.{FileMap}
use Rattle.journal.specs.declared.edit.ReadEdit.{ReadEdit}
use Rattle.journal.specs.declared.edit.ReadEdit.TheVariants as edits
use Rattle.journal.specs.declared.faults.EditFault.{EditFault}
use Rattle.journal.specs.declared.faults.EditFault.TheVariants as edit_faults
use Rattle.front.specs.declared.faults.ReadFault.{ReadFault}
use Rattle.front.specs.declared.faults.ReadFault.TheVariants as read_faults
use Rattle.front.specs.Reading.{Accepted, Refused}
use Rattle.journal.specs.Journal.{JournalParts, after, edit_fault}
use Rattle.edit_lines.specs.Lines.{kept_line, misread_line, fault_line, not_yet_line}
use Rattle.cut_form.specs.Reports.{ReportParts, report_of}
use Rattle.check_stream.specs.declared.turn.Turn.{Turn}
use Rattle.check_stream.specs.declared.turn.Turn.TheVariants.{Lines, Last}
use Rattle.check_stream.specs.Acts.{Edits, kept, refused, Puts, misread, read, path_of}
use Rattle.check_stream.specs.Ends.{Closes, answered, unanswered, asked, answer_status}
use Rattle.check_stream.specs.Progress.{Progress, refusing}
use Rattle.check_stream.specs.Turns.{Answers, IsClosing, IsNotYet, Refuses}

pub kept_edit : (before : Progress) (journal now : JournalParts) (has_refused : Bool) (edit : ReadEdit) (number : ℕ) (line : Bytes)
    → record { journal = journal; refused = has_refused } ≡ before → edit_fault journal edit ≡ None → now ≡ after journal edit → number ≡ journal.number + 1 → line ≡ kept_line number
    → Edits before edit line (record { journal = now; refused = has_refused })
kept_edit before journal now has_refused edit number line is free journal_is number_is line_is =
    let start : Progress = record { journal = journal; refused = has_refused } in
    subst (λ (p : Progress). Edits p edit line (record { journal = now; refused = has_refused })) is
    (subst (λ (l : Bytes). Edits start edit l (record { journal = now; refused = has_refused })) (sym (line_is ∙ ap kept_line number_is))
    (subst (λ (j : JournalParts). Edits start edit (kept_line (journal.number + 1)) (record { journal = j; refused = has_refused })) (sym journal_is) (kept free)))

pub refused_edit : (before : Progress) (journal now : JournalParts) (has_refused : Bool) (edit : ReadEdit) (fault : EditFault) (path line : Bytes) (come_to : Progress)
    → record { journal = journal; refused = has_refused } ≡ before → (fault ≢ edit_faults.Memory → edit_fault journal edit ≡ Some fault) → now ≡ journal → path ≡ path_of edit
    → Refuses (fault ≢ edit_faults.Memory) (fault_line path fault) line (record { journal = now; refused = has_refused }) come_to → Edits before edit line come_to
refused_edit before journal now has_refused edit fault path line come_to is found journal_is path_is refuses =
    let start : Progress = record { journal = journal; refused = has_refused } in
    let line_is : line ≡ fault_line (path_of edit) fault = refuses.line_is ∙ ap (λ (p : Bytes). fault_line p fault) path_is in
    let come_is : come_to ≡ refusing start = refuses.come_to_is ∙ ap (λ (j : JournalParts). refusing (record { journal = j; refused = has_refused })) journal_is in
    subst (λ (p : Progress). Edits p edit line come_to) is
    (subst (λ (l : Bytes). Edits start edit l come_to) (sym line_is)
    (subst (λ (p : Progress). Edits start edit (fault_line (path_of edit) fault) p) (sym come_is) (refused fault (found refuses.told))))

-- ---- a file that is put

pub puts_misread : (before start come_to : Progress) (path shown file line : Bytes) (fault : ReadFault) → start ≡ before → shown ≡ path → (fault ≢ read_faults.Memory → Refused shown file fault)
    → Refuses (fault ≢ read_faults.Memory) (misread_line path fault) line start come_to → Puts before path file line come_to
puts_misread before start come_to path shown file line fault is shown_is found refuses =
    let cause : Refused path file fault = subst (λ (p : Bytes). Refused p file fault) shown_is (found refuses.told) in
    subst (λ (p : Progress). Puts p path file line come_to) is
    (subst (λ (l : Bytes). Puts start path file l come_to) (sym refuses.line_is)
    (subst (λ (p : Progress). Puts start path file (misread_line path fault) p) (sym refuses.come_to_is) (misread fault cause)))

pub puts_read : (before start come_to : Progress) (path shown copied file line : Bytes) (of : Item) (item : Arc Item Global) (len : ℕ) → start ≡ before → shown ≡ path → copied ≡ path → arc_value item ≡ of → len ≡ length file
    → Accepted shown file of → Edits start (edits.Put copied item len) line come_to → Puts before path file line come_to
puts_read before start come_to path shown copied file line of item len is shown_is copied_is item_is len_is accepted done =
    subst (λ (p : Progress). Puts p path file line come_to) is
    (read item line come_to
    (subst (λ (p : Bytes). Accepted p file (arc_value item)) shown_is (subst (λ (i : Item). Accepted shown file i) (sym item_is) accepted))
    (subst (λ (p : Bytes). Edits start (edits.Put p item (length file)) line come_to) copied_is (subst (λ (n : ℕ). Edits start (edits.Put copied item n) line come_to) len_is done)))

-- ---- the answer at the end

-- what is reported of the files
pub reported : {R : Type 0} (value : R → ReportParts) (report : R) (found : Option R) (before : Progress) (journal : JournalParts) (has_refused : Bool) (shown : FileMap)
    → record { journal = journal; refused = has_refused } ≡ before → shown ≡ journal.files → option_map value found ≡ report_of shown → found ≡ Some report → report_of before.journal.files ≡ Some (value report)
reported value report found before journal has_refused shown is shown_is said found_is =
    ap (λ (p : Progress). report_of p.journal.files) (sym is) ∙ ap report_of (sym shown_is) ∙ sym said ∙ ap (option_map value) found_is

pub not_reported : {R : Type 0} (value : R → ReportParts) (found : Option R) (before : Progress) (journal : JournalParts) (has_refused : Bool) (shown : FileMap)
    → record { journal = journal; refused = has_refused } ≡ before → shown ≡ journal.files → option_map value found ≡ report_of shown → found ≡ None → report_of before.journal.files ≡ None
not_reported value found before journal has_refused shown is shown_is said found_is =
    ap (λ (p : Progress). report_of p.journal.files) (sym is) ∙ ap report_of (sym shown_is) ∙ sym said ∙ ap (option_map value) found_is

pub closes_with : (before : Progress) (report : ReportParts) (status : ℕ) → report_of before.journal.files ≡ Some report → status ≡ answer_status before.refused report.has_issues
    → Closes before commands.End report.lines status
closes_with before report status is status_is = subst (λ (s : ℕ). Closes before commands.End report.lines s) (sym status_is) (answered report is)

pub closes_unanswered : (before : Progress) (turn : Turn) → report_of before.journal.files ≡ None → IsNotYet turn → IsClosing before commands.End turn
closes_unanswered before (Lines lines) none said = said
closes_unanswered before (Last lines status) none said =
    subst (λ (l : Bytes). Closes before commands.End l status) (sym said.0) (subst (λ (s : ℕ). Closes before commands.End not_yet_line s) (sym said.1) (unanswered none))

-- ---- by the command

-- a question
pub answers_question : (before : Progress) (text : Bytes) (command : Command) (session : ℕ) (query : Query) (turn : Turn) → command ≡ commands.Ask session query → IsNotYet turn → Answers before before text command turn
answers_question before text command session query (Lines lines) is said = absurd said
answers_question before text command session query (Last lines status) is said =
    subst (λ (c : Command). Closes before c lines.items status) (sym is)
    (subst (λ (l : Bytes). Closes before (commands.Ask session query) l status) (sym said.0) (subst (λ (s : ℕ). Closes before (commands.Ask session query) not_yet_line s) (sym said.1) (asked session query)))
