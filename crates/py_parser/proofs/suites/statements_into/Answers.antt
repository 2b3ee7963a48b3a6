use Rattle.std.proofs.Common.{◌∙◌, ap, rules}
use Rattle.phrases.specs.Sets.{has}
use Rattle.py_ast.specs.Kinds.{class}
use Rattle.py_ast.specs.Files.{suites}
use Rattle.py_parser.specs.Suites.{statement, statement_first}
use Rattle.py_parser.proofs.suites.statements_into.Goals as goal

pub returns-clause-read : goal.returns-clause-read
returns-clause-read g c =
    c.many_into.ensures.read class (statement_first c.args.kind) (statement c.args.room (suites 100 c.args.room) c.args.kind).read (λ k b h. h.says.met ∙ ap (λ v. has (statement_first c.args.kind) (class v)) h.shows) (λ all ts r h. search rules)
