-- What stands in a nesting has one less room; and so many levels of operators are one over the tighter ones.
use Rattle.std.proofs.Common.{◌≡◌, ℕ, suc, ◌+◌, ◌-◌, ◌<◌, List, refl, arith}
use Rattle.phrases.specs.Nesting.{never}
use Rattle.py_lexer.specs.declared.token.Token.{Token}
use Rattle.py_ast.specs.Kinds.{class}
use Rattle.py_ast.specs.Nested.{nest_shapes}
use Rattle.py_ast.specs.Grammar.{Shape, Whole, Inversion, Factor, shape_first, shape_over, nested, shaped, expr, expr_in, inversion_in, inversion_over, factor_over, level, binary, comparison, conjunction, disjunction, conditional}
use Rattle.py_ast.proofs.Expressions.{nested-is}

pub nested_is : (s : Shape) (room : ℕ) (ts : List Token) → 0 < room → (nested room s).read ts ≡ (shaped s (room - 1)).read ts
nested_is s room ts h = rw (nested-is s room h) refl

pub nested_never : (s : Shape) (room : ℕ) (ts : List Token) → room ≡ 0 → (nested room s).read ts ≡ (never class (shape_first s)).read ts
unfolding nest_shapes
nested_never s room ts e = rw e refl

-- what a phrase of each shape is over those that stand in its nestings, with the others of its room in it
pub expr_is : (room : ℕ) (ts : List Token) → (expr room).read ts ≡ (conditional room (disjunction (conjunction (shaped Inversion room))) (nested room Whole)).read ts
unfolding shaped shape_over expr_in
expr_is room ts = refl

pub inversion_is : (room : ℕ) (ts : List Token) → (shaped Inversion room).read ts ≡ (inversion_over room (nested room Inversion) (comparison (binary 6 (shaped Factor room)))).read ts
unfolding shaped shape_over inversion_in
inversion_is room ts = refl

pub factor_is : (room : ℕ) (ts : List Token) → (shaped Factor room).read ts ≡ (factor_over room (nested room Whole) (nested room Factor)).read ts
unfolding shaped shape_over
factor_is room ts = refl

binary_suc : (l room : ℕ) (ts : List Token) → (binary (suc l) (shaped Factor room)).read ts ≡ (level l (binary l (shaped Factor room))).read ts
unfolding binary
binary_suc l room ts = refl

-- one level more, over the tighter ones
pub binary_is : (l room : ℕ) (ts : List Token) → (binary (l + 1) (shaped Factor room)).read ts ≡ (level l (binary l (shaped Factor room))).read ts
binary_is l room ts = let e : l + 1 ≡ suc l = omega arith in rw e (binary_suc l room ts)

-- an expression is what stands in a nesting of one room more
pub nested_next : (room : ℕ) → nested (room + 1) Whole ≡ expr room
nested_next room = let e : room + 1 - 1 ≡ room = omega arith in let h : 0 < room + 1 = omega arith in rw (nested-is Whole (room + 1) h, e) refl

pub nested_more : (room : ℕ) (ts : List Token) → (nested (room + 1) Whole).read ts ≡ (expr room).read ts
nested_more room ts = rw (nested_next room) refl
