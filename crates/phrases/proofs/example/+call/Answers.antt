use Rattle.std.proofs.Common.{◌∙◌, ap}
use Rattle.phrases.specs.Sets.{has}
use Rattle.phrases.specs.Example.{class, item_first, item_next, items, item, call}
use Rattle.phrases.proofs.example.+call.Goals as goal

pub items_of-returns-clause-read : goal.items_of-returns-clause-read
unfolding items
items_of-returns-clause-read t c =
    c.series.ensures.read class item_first (λ s. (item (call c.args.room) s).read) item_next (λ s t b h. h.2 ∙ ap (λ v. has (item_first s) v) h.1) (λ s ts r h. (h.0, h.1.0))
