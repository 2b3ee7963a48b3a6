use Rattle.std.proofs.Common.{◌∙◌, sym, refl}
use Rattle.phrases.proofs.Loops.{starts_head}
use Rattle.py_parser.proofs.lists.begins_at.Goals as goal

pub returns-in-len1-up : goal.returns-in-len1-up
returns-in-len1-up g c = λ class first tells.
    tells c.first-item.result c.begins.result (record { shown = _; shows = refl; says = record { met = c.begins.ensures } })
    ∙ sym (starts_head class first c.args.tokens.now c.first-item.result c.in-len1-up.len_at_least c.first-item.is)
