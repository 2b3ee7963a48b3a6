use Rattle.std.proofs.Common.{◌∙◌, ap}
use Rattle.phrases.specs.Sets.{has}
use Rattle.pysa_syntax.specs.declared.symbol.Symbol.TheVariants as symbols
use Rattle.pysa_syntax.specs.Symbols.{class, only}
use Rattle.pysa_syntax.specs.Grammar.{further_param, on_behind, further_params}
use Rattle.pysa_syntax.proofs.params.further_params.Goals as goal

pub returns-clause-read : goal.returns-clause-read
unfolding further_params
returns-clause-read c =
    c.series.ensures.read class (λ s. only symbols.Comma) (λ s. further_param.read) on_behind (λ s t b h. h.2 ∙ ap (λ v. has (only symbols.Comma) (class v)) h.1) (λ s ts r h. (h.0, h.1.0))
