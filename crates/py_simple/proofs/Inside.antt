-- What stands in a bracket of literals has one less room.
use Rattle.std.proofs.Common.{◌≡◌, ℕ, zero, suc, ◌-◌, ◌<◌, List, refl, arith}
use Rattle.py_lexer.specs.declared.token.Token.{Token}
use Rattle.py_ast.specs.Nested.{nest_shapes}
use Rattle.py_ast.specs.Literals.{literal_over, literal_shape, nested_literal, literal}

pub nested_literal_is : (room : ℕ) (ts : List Token) → 0 < room → (nested_literal room (tt {0})).read ts ≡ (literal_over (room - 1) (nested_literal (room - 1) (tt {0}))).read ts
unfolding nest_shapes literal_shape
nested_literal_is zero ts h = absurd (omega arith)
nested_literal_is (suc room) ts h = let e : suc room - 1 ≡ room = omega arith in rw e refl

pub literal_is : (room : ℕ) (ts : List Token) → (literal room).read ts ≡ (literal_over room (nested_literal room (tt {0}))).read ts
unfolding literal literal_shape
literal_is room ts = refl
