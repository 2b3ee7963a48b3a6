use Rattle.std.proofs.Common.{◌∙◌, ap}
use Rattle.phrases.specs.Sets.{has}
use Rattle.pysa_syntax.specs.Symbols.{class, only}
use Rattle.pysa_syntax.specs.Grammar.{before, identifier}
use Rattle.pysa_syntax.proofs.words.further_names.Goals as goal

pub returns-clause-read : goal.returns-clause-read
returns-clause-read c =
    c.many.ensures.read class (only c.args.separator) (before c.args.separator identifier).read (λ t b h. h.says.met ∙ ap (λ v. has (only c.args.separator) (class v)) h.shows) (λ ts r h. h.0)
