use Rattle.std.proofs.Common.{ap, ◌∙◌}
use Rattle.std.proofs.lemmas.Result.{IfOk-weaker}
use Rattle.cut_form.specs.Reports.{report_value}
use Rattle.check_stream.specs.Ends.{answer_status}
use Rattle.check_stream.specs.Progress.{Progress}
use Rattle.check_stream.proofs.Edits.{reported, not_reported, closes_with, closes_unanswered}
use Rattle.check_stream.proofs.session.Session.finish.Goals as goal

pub returns-in-Some : goal.returns-in-Some
returns-in-Some c =
    closes_with c.args.self.now (report_value c.in-Some.report) c.answer_status.result
    (reported report_value c.in-Some.report c.in_ok-report.field-0 c.args.self.now c.self.inside.journal c.self.inside.refused c.files.result.now c.self.view_is c.files.ensures c.in_ok-report.ensures c.in-Some.is)
    (c.answer_status.ensures ∙ ap (λ (p : Progress). answer_status p.refused c.in-Some.report.has_issues) c.self.view_is)

pub returns-in-None : goal.returns-in-None
returns-in-None c =
    IfOk-weaker c.not_yet.result _ _ (λ turn said. closes_unanswered c.args.self.now turn
    (not_reported report_value c.in_ok-report.field-0 c.args.self.now c.self.inside.journal c.self.inside.refused c.files.result.now c.self.view_is c.files.ensures c.in_ok-report.ensures c.in-None.is) said) c.not_yet.ensures
