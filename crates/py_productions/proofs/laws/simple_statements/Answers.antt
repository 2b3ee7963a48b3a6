use Rattle.py_productions.proofs.SimpleLaws.{simple-out, simple-into, file-out, file-into}
use Rattle.py_productions.proofs.laws.simple_statements.Goals as goal

pub returns-clause-of_blocks : goal.returns-clause-of_blocks
returns-clause-of_blocks c = λ room returns loops x s. (simple-out room returns loops x s, simple-into room returns loops x s)

pub returns-clause-of_files : goal.returns-clause-of_files
returns-clause-of_files c = λ room x s. (file-out room x s, file-into room x s)
