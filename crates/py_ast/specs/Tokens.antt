-- What single tokens stand for in expressions.
use Rattle.std.specs.Prelude.{ℕ, zero, suc, cond, List, [], ◌∷◌, ◌++◌, Option, Some, None}
use Rattle.py_literals.specs.declared.place.Pos.{Pos}
use Rattle.py_lexer.specs.declared.token.Kind.{Kind}
use Rattle.py_lexer.specs.declared.token.Kind.TheVariants as kinds
use Rattle.py_lexer.specs.declared.token.Value.{Value}
use Rattle.py_lexer.specs.declared.token.Value.TheVariants as values
use Rattle.py_lexer.specs.declared.token.Token.{Token}
use Rattle.py_ast.specs.Kinds.{code, pick, placed, name_code, super_code, number_code, text_code, part_text_code}
use Rattle.py_ast.specs.Trees.{leaf}
use Rattle.py_ast.specs.declared.tree.BinaryOperator.{BinaryOperator}
use Rattle.py_ast.specs.declared.tree.BinaryOperator.TheVariants as operators
use Rattle.py_ast.specs.declared.tree.Comparator.{Comparator}
use Rattle.py_ast.specs.declared.tree.Comparator.TheVariants as comparators
use Rattle.py_ast.specs.declared.tree.Constant.TheVariants as constants
use Rattle.py_ast.specs.declared.tree.Expr.{Expr}
use Rattle.py_ast.specs.declared.tree.Form.{Form}
use Rattle.py_ast.specs.declared.tree.Form.TheVariants as forms
use Rattle.py_ast.specs.declared.tree.NameAt.{NameAt}
use Rattle.py_ast.specs.declared.tree.Part.{Part}
use Rattle.py_ast.specs.declared.tree.Part.TheVariants as parts
use Rattle.py_ast.specs.declared.tree.Piece.{Piece}
use Rattle.py_ast.specs.declared.tree.Piece.TheVariants as pieces
use Rattle.py_ast.specs.declared.tree.UnaryOperator.{UnaryOperator}
use Rattle.py_ast.specs.declared.tree.UnaryOperator.TheVariants as unary_operators

-- ---- atoms of one token: names, whole numbers, constants

abbrev pub leaf_codes : List ℕ
leaf_codes = name_code ∷ number_code ∷ code kinds.False ∷ code kinds.None ∷ code kinds.True ∷ code kinds.Ellipsis ∷ []

abbrev pub named_form : Value → Option Form
named_form (values.Name n) = Some (forms.Name n)
named_form _ = None

abbrev pub number_form : Value → Option Form
number_form (values.Whole n) = Some (forms.Number n)
number_form _ = None

abbrev pub leaf_form : Kind → Value → Option Form
leaf_form kinds.Name v = named_form v
leaf_form kinds.Number v = number_form v
leaf_form kinds.False v = Some (forms.Constant constants.False)
leaf_form kinds.None v = Some (forms.Constant constants.None)
leaf_form kinds.True v = Some (forms.Constant constants.True)
leaf_form kinds.Ellipsis v = Some (forms.Constant constants.Ellipsis)
leaf_form _ v = None

abbrev pub leaf_at : Option Form → Pos → Option Expr
leaf_at None at = None
leaf_at (Some f) at = Some (leaf at f)

abbrev pub leaf_of : Token → Option Expr
leaf_of = pick leaf_codes (λ t. leaf_at (leaf_form t.kind t.value) t.at)

-- ---- names, `super` among them

abbrev pub name_value : Pos → Value → Option NameAt
name_value at (values.Name n) = Some (record { name = n; at = at })
name_value at _ = None

abbrev pub name_codes : List ℕ
name_codes = name_code ∷ super_code ∷ []

abbrev pub name_of : List ℕ → Token → Option NameAt
name_of codes = pick codes (λ t. name_value t.at t.value)

-- ---- strings that aren't formatted

abbrev pub text_value : Pos → Value → Option (Pos × Piece)
text_value at (values.Text s) = Some (at, pieces.Plain s)
text_value at _ = None

abbrev pub text_of : Token → Option (Pos × Piece)
text_of = pick (text_code ∷ []) (λ t. text_value t.at t.value)

-- a text between the fields of a formatted string
abbrev pub part_value : Value → Option Part
part_value (values.Text s) = Some (parts.Text s)
part_value _ = None

abbrev pub part_text_of : Token → Option Part
part_text_of = pick (part_text_code ∷ []) (λ t. part_value t.value)

-- ---- operators

abbrev pub unary_codes : List ℕ
unary_codes = code kinds.Plus ∷ code kinds.Minus ∷ code kinds.Tilde ∷ []

abbrev pub unary_in : Kind → Option UnaryOperator
unary_in kinds.Plus = Some unary_operators.Plus
unary_in kinds.Minus = Some unary_operators.Minus
unary_in kinds.Tilde = Some unary_operators.Invert
unary_in _ = None

abbrev pub unary_operator_of : Token → Option (UnaryOperator × Pos)
unary_operator_of = pick unary_codes (λ t. placed (unary_in t.kind) t.at)

-- the binary operators of a level, the tightest first (6.7 to 6.9)
abbrev pub level_codes : ℕ → List ℕ
level_codes zero = code kinds.Star ∷ code kinds.At ∷ code kinds.Slash ∷ code kinds.DoubleSlash ∷ code kinds.Percent ∷ []
level_codes (suc zero) = code kinds.Plus ∷ code kinds.Minus ∷ []
level_codes (suc (suc zero)) = code kinds.LeftShift ∷ code kinds.RightShift ∷ []
level_codes (suc (suc (suc zero))) = code kinds.Ampersand ∷ []
level_codes (suc (suc (suc (suc zero)))) = code kinds.Caret ∷ []
level_codes (suc (suc (suc (suc (suc l))))) = code kinds.Bar ∷ []

abbrev pub binary_in : Kind → Option BinaryOperator
binary_in kinds.Star = Some operators.Multiply
binary_in kinds.At = Some operators.MatrixMultiply
binary_in kinds.Slash = Some operators.Divide
binary_in kinds.DoubleSlash = Some operators.FloorDivide
binary_in kinds.Percent = Some operators.Remainder
binary_in kinds.Plus = Some operators.Add
binary_in kinds.Minus = Some operators.Subtract
binary_in kinds.LeftShift = Some operators.LeftShift
binary_in kinds.RightShift = Some operators.RightShift
binary_in kinds.Ampersand = Some operators.BitAnd
binary_in kinds.Caret = Some operators.BitXor
binary_in kinds.Bar = Some operators.BitOr
binary_in _ = None

abbrev pub operator_of : ℕ → Token → Option (BinaryOperator × Pos)
operator_of l = pick (level_codes l) (λ t. placed (binary_in t.kind) t.at)

-- the comparisons of one token (6.10)
abbrev pub comparator_codes : List ℕ
comparator_codes =
    code kinds.Less ∷ code kinds.LessEqual ∷ code kinds.Greater ∷ code kinds.GreaterEqual ∷ code kinds.DoubleEqual ∷ code kinds.NotEqual ∷ code kinds.In ∷ []

abbrev pub comparator_in : Kind → Option Comparator
comparator_in kinds.Less = Some comparators.Less
comparator_in kinds.LessEqual = Some comparators.LessEqual
comparator_in kinds.Greater = Some comparators.Greater
comparator_in kinds.GreaterEqual = Some comparators.GreaterEqual
comparator_in kinds.DoubleEqual = Some comparators.Equal
comparator_in kinds.NotEqual = Some comparators.NotEqual
comparator_in kinds.In = Some comparators.In
comparator_in _ = None

abbrev pub comparator_of : Token → Option (Comparator × Pos)
comparator_of = pick comparator_codes (λ t. placed (comparator_in t.kind) t.at)
