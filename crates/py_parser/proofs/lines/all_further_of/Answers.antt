use Rattle.std.proofs.Common.{◌∷◌, [], ◌∙◌, ap}
use Rattle.phrases.specs.Sets.{has}
use Rattle.py_ast.specs.Kinds.{class}
use Rattle.py_ast.specs.Grammar.{goes_past, expr}
use Rattle.py_ast.specs.Statements.{further}
use Rattle.py_parser.specs.Lines.{simples, simples_first}
use Rattle.py_parser.proofs.lines.all_further_of.Goals as goal

pub returns-clause-read : goal.returns-clause-read
returns-clause-read c =
    c.series.ensures.read class (λ s. 80 ∷ []) (λ s. (further (simples_first c.args.place) (simples (expr 100) c.args.place)).read) (λ s i. goes_past (λ n. tt {0}) i) (λ s k b h. h.2 ∙ ap (λ v. has (80 ∷ []) (class v)) h.1) (λ s ts r h. (h.0, h.1.0))
