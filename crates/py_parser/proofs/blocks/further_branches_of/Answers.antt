use Rattle.std.proofs.Common.{◌∷◌, [], ◌∙◌, ap}
use Rattle.phrases.specs.Sets.{has}
use Rattle.py_ast.specs.Kinds.{class}
use Rattle.py_ast.specs.Grammar.{expr}
use Rattle.py_ast.specs.Statements.{branch}
use Rattle.py_ast.specs.Files.{suites}
use Rattle.py_parser.proofs.blocks.further_branches_of.Goals as goal

pub returns-clause-read : goal.returns-clause-read
returns-clause-read g c =
    c.many.ensures.read class (28 ∷ []) (branch 28 (expr 100) c.args.room (suites 100 c.args.room c.args.kind)).read (λ k b h. h.says.met ∙ ap (λ v. has (28 ∷ []) (class v)) h.shows) (λ ts r h. h.0)
