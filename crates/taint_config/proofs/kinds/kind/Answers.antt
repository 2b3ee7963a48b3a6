use Rattle.std.proofs.Common.{sym, ap, ◌∙◌, Err}
use Rattle.taint_config.proofs.Names.{IsIdentifier-from_is_kind}
use Rattle.taint_config.proofs.kinds.kind.Goals as goal

pub returns-in-Err-NotIdent : goal.returns-in-Err-NotIdent
returns-in-Err-NotIdent c =
    absurd (c.in-Err-NotIdent.ensures.refused (ap Err c.in-Err-NotIdent.field-0-is) (IsIdentifier-from_is_kind c.args.text.now (sym c.is_kind.ensures ∙ c.if-not-is_kind.false)))
