use Rattle.std.proofs.Common.{◌∙◌, ap}
use Rattle.phrases.specs.Sets.{has}
use Rattle.pysa_syntax.specs.Symbols.{class, model_first}
use Rattle.pysa_syntax.specs.Grammar.{model, file}
use Rattle.pysa_syntax.proofs.models.file.Goals as goal

pub returns-clause-read : goal.returns-clause-read
unfolding file
returns-clause-read c =
    c.many.ensures.read class model_first model.read (λ t b h. h.says.met ∙ ap (λ v. has model_first (class v)) h.shows) (λ ts r h. h.0)
