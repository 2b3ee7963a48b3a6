use Rattle.std.proofs.Common.{refl}
use Rattle.py_lexer.proofs.WordLemmas.{name_read, name_refused}
use Rattle.py_lexer.proofs.words.read_name.Goals as goal

pub returns-in-Ok : goal.returns-in-Ok
returns-in-Ok c = name_read c.args.text.now c.args.spelled.now c.in-Ok.name c.utf8.spelled c.requires.same c.in-Ok.ensures.identifier c.in-Ok.ensures.name

pub returns-in-Err-NotIdent : goal.returns-in-Err-NotIdent
returns-in-Err-NotIdent c =
    let refused = rw c.in-Err-NotIdent.field-0-is at c.in-Err-NotIdent.ensures.refused in
    name_refused c.args.text.now c.args.spelled.now c.utf8.spelled c.requires.same (refused refl) c.requires.identifier
