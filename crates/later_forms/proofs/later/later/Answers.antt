use Rattle.later_forms.proofs.Along.{if_least}
use Rattle.later_forms.proofs.later.later.Goals as goal

pub returns-clause-value : goal.returns-clause-value
returns-clause-value c = rw (← c.split_at.ensures.front, ← c.line_begin-begin.ensures.value, ← c.split_at-2.ensures.back) c.told_along.ensures

pub returns-clause-below : goal.returns-clause-below
returns-clause-below c = if_least c.told_along.result c.args.limit _ c.told_along.ensures
