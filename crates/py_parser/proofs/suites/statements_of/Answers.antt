use Rattle.py_ast.specs.Kinds.{class}
use Rattle.py_ast.specs.Files.{suites}
use Rattle.phrases.specs.Phrases.{many}
use Rattle.py_parser.specs.Suites.{statement, statement_first}
use Rattle.py_parser.proofs.Inside.{block_read, block_stops}
use Rattle.py_parser.proofs.suites.statements_of.Goals as goal

pub returns-in-Err-clause-read : goal.returns-in-Err-clause-read
returns-in-Err-clause-read g c =
    let s = statement c.args.room (suites 100 c.args.room) c.args.kind in
    block_stops s (many class (statement_first c.args.kind) s) c.args.tokens.now _ c.new.ensures.items _ c.in-Err.ensures.read

pub returns-clause-read : goal.returns-clause-read
returns-clause-read g c =
    let s = statement c.args.room (suites 100 c.args.room) c.args.kind in
    rw (block_read s (many class (statement_first c.args.kind) s) c.args.tokens.now _ c.new.ensures.items _ _ c.in-Ok.ensures.read) c.statements_into.ensures.read
