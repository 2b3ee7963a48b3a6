use Rattle.std.proofs.Common.{◌≡◌, true, [], ◌∷◌, rules}
use Rattle.phrases.specs.Sets.{starts}
use Rattle.py_ast.specs.Kinds.{class}
use Rattle.py_ast.specs.Grammar.{mapped, ended, expr}
use Rattle.py_ast.specs.Statements.{line}
use Rattle.py_parser.specs.Lines.{simples, simples_first}
use Rattle.py_parser.proofs.Lined.{line_one}
use Rattle.py_parser.proofs.lines.line_into.Goals as goal

pub returns-in_err-first-clause-read : goal.returns-in_err-first-clause-read
unfolding line mapped ended
returns-in_err-first-clause-read c = search rules

pub returns-clause-read : goal.returns-clause-read
returns-clause-read c =
    let b : starts class (5 ∷ []) c.in_ok-first.rest.now ≡ true = cc c.stands.ensures in
    line_one _ (simples_first c.args.place) (simples (expr 100) c.args.place) _ _ _ _ _ _ c.in_ok-first.ensures.read b c.in_ok-rest.ensures.read (cc (c.push_reserved.ensures.items, c.in_ok-all.ensures.items))
