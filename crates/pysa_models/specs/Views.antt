-- Models as the code lends them.
use Rattle.pysa_models.specs.declared.models.Placed.{Placed}
use Rattle.pysa_models.specs.Models.{ModelAt}

abbrev pub model_at : Placed → ModelAt
model_at p = record { path = p.path.now; decl = p.decl.now }
