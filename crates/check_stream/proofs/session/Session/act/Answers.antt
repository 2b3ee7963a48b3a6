use Rattle.std.proofs.lemmas.Result.{IfOk-weaker}
use Rattle.check_stream.proofs.Edits.{answers_question}
use Rattle.check_stream.proofs.session.Session.act.Goals as goal

pub returns-in-Ask : goal.returns-in-Ask
returns-in-Ask c =
    IfOk-weaker c.not_yet.result _ _ (λ turn said. answers_question c.args.self.now c.args.bytes.now c.args.command c.in-Ask.session c.in-Ask.query turn c.in-Ask.is said) c.not_yet.ensures
