use Rattle.py_parser.proofs.Verdicts.{deep_is, told_behind_deep}
use Rattle.py_parser.proofs.reading.too_deep.Goals as goal

pub returns-in-Ok-None : goal.returns-in-Ok-None
returns-in-Ok-None c =
    deep_is c.args.tokens.now c.args.rest.now _ c.in-Ok-None.field-0 c.requires.deep (cc c.in-Ok-None.field-0-is) c.in-Ok-None.ensures.value (c.stop_place.ensures _ c.requires.ends)

pub returns-in-Ok-Some : goal.returns-in-Ok-Some
returns-in-Ok-Some c =
    told_behind_deep c.args.tokens.now c.args.rest.now c.in-Ok-Some.field-0 c.in-Ok-Some.found _ c.requires.deep (cc c.in-Ok-Some.field-0-is) c.in-Ok-Some.ensures.value c.in-Ok-Some.ensures.inside
