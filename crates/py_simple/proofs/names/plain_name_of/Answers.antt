use Rattle.std.proofs.Common.{List, subst, sym, ◌∙◌}
use Rattle.std.specs.Borrow.{Bor}
use Rattle.phrases.specs.Loops.{Gives}
use Rattle.phrases.specs.Reading.{Outcome, Read}
use Rattle.py_lexer.specs.declared.token.Token.{Token}
use Rattle.py_ast.specs.Statements.{name}
use Rattle.py_ast.specs.declared.tree.NameAt.{NameAt}
use Rattle.py_simple.proofs.Plain.{plain_name, no_plain_name}
use Rattle.py_simple.proofs.names.plain_name_of.Goals as goal

pub returns-then-stands-clause-read : goal.returns-then-stands-clause-read
unfolding name
returns-then-stands-clause-read c =
    subst (λ (o : Outcome Token NameAt). Gives {X = NameAt × Bor (List Token)} (λ x. Read x.0 x.1.now) c.name_of.result o) (sym (plain_name c.args.tokens.now (sym c.stands.ensures ∙ c.if-stands.true))) c.name_of.ensures.read

pub returns-else-stands-clause-read : goal.returns-else-stands-clause-read
returns-else-stands-clause-read c = no_plain_name c.args.tokens.now (sym c.stands.ensures ∙ c.if-stands.false)
