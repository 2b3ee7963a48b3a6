use Rattle.std.proofs.Common.{Err}
use Rattle.std.proofs.lemmas.Str.Parse.{parse_digits}
use Rattle.script.proofs.Digits.{own}
use Rattle.script.proofs.fields.parsed.Goals as goal

pub returns-in-Err : goal.returns-in-Err
returns-in-Err c = λ lt. parse_digits own 32 c.args.digits.now (Err c.in-Err.field-0) c.in-Err.ensures.value.0 c.requires.digits (c.requires.some, lt)
