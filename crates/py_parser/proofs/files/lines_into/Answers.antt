use Rattle.std.proofs.Common.{◌∙◌, ap}
use Rattle.phrases.specs.Sets.{has}
use Rattle.py_ast.specs.Kinds.{class}
use Rattle.py_ast.specs.Grammar.{expr}
use Rattle.py_ast.specs.Literals.{literal}
use Rattle.py_ast.specs.Files.{suites, file_item, file_first, file}
use Rattle.py_parser.proofs.files.lines_into.Goals as goal

pub returns-clause-read : goal.returns-clause-read
unfolding file
returns-clause-read c =
    c.many_into.ensures.read class file_first (file_item (expr 100) (literal 100) 100 (suites 100 100)).read (λ k b h. h.says.met ∙ ap (λ v. has file_first (class v)) h.shows) (λ all ts r h. h.1.0)
