use Rattle.std.proofs.Common.{◌≡◌, ◌∙◌, sym, true}
use Rattle.py_lexer.specs.Chars.{is_white}
use Rattle.py_lexer.proofs.Blanks.{white_in_line, comment_in_line}
use Rattle.py_lexer.proofs.gap.passed_len.Goals as goal

pub returns-then-is_white-clause-in_line : goal.returns-then-is_white-clause-in_line
returns-then-is_white-clause-in_line c =
    let white : is_white c.args.first ≡ true = sym c.is_white.ensures ∙ c.if-is_white.true in
    rw c.white_len.ensures.value (white_in_line c.args.first c.args.rest.now white)

pub returns-then-first-eq35-clause-in_line : goal.returns-then-first-eq35-clause-in_line
returns-then-first-eq35-clause-in_line c = rw c.line_len.ensures.value (comment_in_line c.args.first c.args.rest.now c.if-first-eq35.true)
