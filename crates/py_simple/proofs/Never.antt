-- What is read where there is no room for a nesting.
use Rattle.std.proofs.Common.{◌≡◌, ℕ, true, false, List, [], ◌∷◌, refl}
use Rattle.phrases.specs.Sets.{starts}
use Rattle.phrases.specs.Reading.{Stuck}
use Rattle.phrases.specs.Nesting.{read_never}
use Rattle.phrases.specs.declared.fault.Fault.TheVariants.{Syntax, TooDeep}
use Rattle.py_lexer.specs.declared.token.Token.{Token}
use Rattle.py_ast.specs.Kinds.{class}
use Rattle.py_ast.specs.Nested.{nest_shapes}
use Rattle.py_ast.specs.Literals.{literal_first, nested_literal}
use Rattle.py_ast.specs.declared.tree.Expr.{Expr}

never-deep : (first : List ℕ) (ts : List Token) → starts class first ts ≡ true → read_never {A = Expr} class first ts ≡ Stuck TooDeep ts
never-deep first [] h = cc
never-deep first (t ∷ ts) h = rw h refl

never-plain : (first : List ℕ) (ts : List Token) → starts class first ts ≡ false → read_never {A = Expr} class first ts ≡ Stuck Syntax ts
never-plain first [] h = refl
never-plain first (t ∷ ts) h = rw h refl

pub literal_too_deep : (ts : List Token) → starts class literal_first ts ≡ true → (nested_literal 0 (tt {0})).read ts ≡ Stuck TooDeep ts
unfolding nest_shapes
literal_too_deep ts h = never-deep literal_first ts h

pub literal_lacks : (ts : List Token) → starts class literal_first ts ≡ false → (nested_literal 0 (tt {0})).read ts ≡ Stuck Syntax ts
unfolding nest_shapes
literal_lacks ts h = never-plain literal_first ts h
