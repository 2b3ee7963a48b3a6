use Rattle.py_ast.proofs.FileLaws.{one-module}
use Rattle.py_ast.proofs.laws.one_module.Goals as goal

pub returns : goal.returns
returns c = one-module
