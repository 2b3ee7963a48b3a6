use Rattle.py_parser.proofs.parsing.module_of.Goals as goal

pub returns-in-Err-clause-refused : goal.returns-in-Err-clause-refused
returns-in-Err-clause-refused c = c.from_lexer.ensures _ c.in-Err.ensures.fault

pub returns-in-Err-answer-clause-refused : goal.returns-in-Err-answer-clause-refused
returns-in-Err-answer-clause-refused c =
    c.from_grammar.ensures _ (c.as_slice.result.now, rw c.as_slice.ensures.value c.in-Ok.ensures.tokens, c.in-Err-answer.ensures)
