use Rattle.py_lexer.proofs.WordLemmas.{name_here}
use Rattle.py_lexer.proofs.words.name_of.Goals as goal

pub returns-in-Some : goal.returns-in-Some
returns-in-Some c = name_here c.args.text.now c.in-Some.name c.in-Some.ensures.identifier c.in-Some.ensures.name
