use Rattle.std.proofs.Common.{sym, ap, ◌∙◌, Err}
use Rattle.project.proofs.Names.{identifier}
use Rattle.project.proofs.path.ascii_name.Goals as goal

pub returns-in-Err-NotIdent : goal.returns-in-Err-NotIdent
returns-in-Err-NotIdent c =
    absurd (c.in-Err-NotIdent.ensures.refused (ap Err c.in-Err-NotIdent.field-0-is) (identifier c.args.text.now (sym c.is_ascii_identifier.ensures ∙ c.if-not-is_ascii_identifier.false)))
