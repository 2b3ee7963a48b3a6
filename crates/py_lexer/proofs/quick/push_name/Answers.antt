use Rattle.std.proofs.Common.{◌≡◌, ap, length, take, length-take, arith}
use Rattle.py_lexer.specs.declared.token.Kind.TheVariants as kinds
use Rattle.py_lexer.specs.declared.token.Value.TheVariants as values
use Rattle.py_lexer.specs.Front.{front_of_lexeme}
use Rattle.py_lexer.proofs.WordLemmas.{name_here}
use Rattle.py_lexer.proofs.quick.push_name.Goals as goal

pub returns-clause-some : goal.returns-clause-some
returns-clause-some c = λ t s.
    let text = take c.args.len c.args.chars.now in
    let whole : length text ≡ c.args.len = omega (arith, length-take c.args.len c.args.chars.now, c.requires.within) in
    let read = name_here text c.in-Some.name c.in-Some.ensures.identifier c.in-Some.ensures.name in
    record { kind = kinds.Name; value = values.Name c.in-Some.name; found = rw whole at (ap (λ lexeme. front_of_lexeme lexeme s) read); pushed = c.in_ok-push.ensures.items }
