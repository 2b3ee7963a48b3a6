use Rattle.std.proofs.Common.{sym, ◌∙◌}
use Rattle.script.proofs.Digits.{named_given, named_refused}
use Rattle.script.proofs.fields.named.Goals as goal

pub returns-in_ok-read-in-Ok : goal.returns-in_ok-read-in-Ok
returns-in_ok-read-in-Ok c = rw (c.in_ok-read-in-Ok.ensures, c.in-Ok.ensures.cases.0) (named_given c.args.name.now (sym c.is_visible.ensures ∙ c.if-not-is_visible.false) c.in-Ok.ensures.cases.1)

pub returns-in-Err : goal.returns-in-Err
returns-in-Err c = named_refused c.args.name.now c.in-Err.ensures.cases.0
