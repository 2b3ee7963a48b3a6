-- What a token is to the forms.
use Rattle.std.specs.Prelude.{ℕ, List, codes, map, reverse, if◌then◌else◌}
use Rattle.std.specs.Str.{bytes_eq}
use Rattle.py_lexer.specs.declared.token.Kind.{Kind}
use Rattle.py_lexer.specs.declared.token.Kind.TheVariants as kinds
use Rattle.py_lexer.specs.declared.token.Value.{Value}
use Rattle.py_lexer.specs.declared.token.Value.TheVariants as values
use Rattle.py_lexer.specs.declared.token.Token.{Token}
use Rattle.py_forms.specs.declared.role.Role.{Role}
use Rattle.py_forms.specs.declared.role.Role.TheVariants as roles

-- a name, by its bytes
abbrev pub role_of_name : List ℕ → Role
role_of_name name =
    if bytes_eq name (codes "super") then roles.Super else (
    if bytes_eq name (codes "__init__") then roles.Init else roles.Name)

abbrev pub operator_or_other : Kind → Role
operator_or_other kinds.And = roles.Operator
operator_or_other kinds.Or = roles.Operator
operator_or_other kinds.In = roles.Operator
operator_or_other kinds.Is = roles.Operator
operator_or_other kinds.Plus = roles.Operator
operator_or_other kinds.Minus = roles.Operator
operator_or_other kinds.Slash = roles.Operator
operator_or_other kinds.DoubleSlash = roles.Operator
operator_or_other kinds.Percent = roles.Operator
operator_or_other kinds.At = roles.Operator
operator_or_other kinds.LeftShift = roles.Operator
operator_or_other kinds.RightShift = roles.Operator
operator_or_other kinds.Ampersand = roles.Operator
operator_or_other kinds.Bar = roles.Operator
operator_or_other kinds.Caret = roles.Operator
operator_or_other kinds.Tilde = roles.Operator
operator_or_other kinds.Less = roles.Operator
operator_or_other kinds.Greater = roles.Operator
operator_or_other kinds.LessEqual = roles.Operator
operator_or_other kinds.GreaterEqual = roles.Operator
operator_or_other kinds.DoubleEqual = roles.Operator
operator_or_other kinds.NotEqual = roles.Operator
operator_or_other _ = roles.Other

abbrev pub role_of_kind : Kind → Role
role_of_kind kinds.Name = roles.Name
role_of_kind kinds.Text = roles.Text
role_of_kind kinds.Float = roles.Float
role_of_kind kinds.Bytes = roles.Bytes
role_of_kind kinds.FStringStart = roles.FStringStart
role_of_kind kinds.FieldOpen = roles.FieldOpen
role_of_kind kinds.FieldClose = roles.FieldClose
role_of_kind kinds.FStringEnd = roles.FStringEnd
role_of_kind kinds.LeftParen = roles.LeftParen
role_of_kind kinds.RightParen = roles.RightParen
role_of_kind kinds.LeftBracket = roles.LeftBracket
role_of_kind kinds.RightBracket = roles.RightBracket
role_of_kind kinds.LeftBrace = roles.LeftBrace
role_of_kind kinds.RightBrace = roles.RightBrace
role_of_kind kinds.Comma = roles.Comma
role_of_kind kinds.Colon = roles.Colon
role_of_kind kinds.Equal = roles.Equal
role_of_kind kinds.ColonEqual = roles.ColonEqual
role_of_kind kinds.Dot = roles.Dot
role_of_kind kinds.Star = roles.Star
role_of_kind kinds.DoubleStar = roles.DoubleStar
role_of_kind kinds.Not = roles.Not
role_of_kind kinds.If = roles.If
role_of_kind kinds.Else = roles.Else
role_of_kind kinds.Await = roles.Await
role_of_kind kinds.Lambda = roles.Lambda
role_of_kind kinds.Yield = roles.Yield
role_of_kind kinds.For = roles.For
role_of_kind kinds.Async = roles.Async
role_of_kind kinds.Number = roles.Literal
role_of_kind kinds.False = roles.Literal
role_of_kind kinds.None = roles.Literal
role_of_kind kinds.True = roles.Literal
role_of_kind kinds.Ellipsis = roles.Literal
role_of_kind kind = operator_or_other kind

-- only a name has a value that tells more than its kind
abbrev pub role_of_value : Kind → Value → Role
role_of_value kinds.Name (values.Name name) = role_of_name name
role_of_value kind _ = role_of_kind kind

unfoldable pub role_of : Token → Role
role_of token = role_of_value token.kind token.value

-- the roles of tokens, and the same with the last token first
unfoldable pub roles_of : List Token → List Role
roles_of tokens = map role_of tokens

unfoldable pub back_of : List Token → List Role
back_of tokens = reverse (map role_of tokens)
