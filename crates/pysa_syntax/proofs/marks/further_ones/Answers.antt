use Rattle.std.proofs.Common.{◌∙◌, ap}
use Rattle.phrases.specs.Sets.{has}
use Rattle.pysa_syntax.specs.declared.symbol.Symbol.TheVariants as symbols
use Rattle.pysa_syntax.specs.Symbols.{class, only}
use Rattle.pysa_syntax.specs.Grammar.{before, one}
use Rattle.pysa_syntax.proofs.marks.further_ones.Goals as goal

pub returns-clause-read : goal.returns-clause-read
returns-clause-read c =
    c.many.ensures.read class (only symbols.Comma) (before symbols.Comma one).read (λ t b h. h.says.met ∙ ap (λ v. has (only symbols.Comma) (class v)) h.shows) (λ ts r h. h.0)
