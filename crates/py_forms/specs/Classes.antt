-- What single tokens begin, and with what they go on (Language Reference, 6 and 10).
use Rattle.std.specs.Prelude.{Bool, true, false}
use Rattle.py_lexer.specs.declared.token.Kind.{Kind}
use Rattle.py_lexer.specs.declared.token.Kind.TheVariants as kinds

-- what begins an operand, but a name or what tells a form of its own
unfoldable pub begins_operand : Kind → Bool
begins_operand kinds.Number = true
begins_operand kinds.Text = true
begins_operand kinds.FStringStart = true
begins_operand kinds.False = true
begins_operand kinds.None = true
begins_operand kinds.True = true
begins_operand kinds.Ellipsis = true
begins_operand kinds.LeftParen = true
begins_operand kinds.LeftBracket = true
begins_operand kinds.LeftBrace = true
begins_operand kinds.Plus = true
begins_operand kinds.Minus = true
begins_operand kinds.Tilde = true
begins_operand kinds.Not = true
begins_operand _ = false

-- what begins an expression of the full grammar
unfoldable pub begins_expression : Kind → Bool
begins_expression kinds.Name = true
begins_expression kinds.Float = true
begins_expression kinds.Bytes = true
begins_expression kinds.Await = true
begins_expression kinds.Lambda = true
begins_expression kind = begins_operand kind

unfoldable pub is_bitwise_or_comparison : Kind → Bool
is_bitwise_or_comparison kinds.LeftShift = true
is_bitwise_or_comparison kinds.RightShift = true
is_bitwise_or_comparison kinds.Ampersand = true
is_bitwise_or_comparison kinds.Bar = true
is_bitwise_or_comparison kinds.Caret = true
is_bitwise_or_comparison kinds.Less = true
is_bitwise_or_comparison kinds.Greater = true
is_bitwise_or_comparison kinds.LessEqual = true
is_bitwise_or_comparison kinds.GreaterEqual = true
is_bitwise_or_comparison kinds.DoubleEqual = true
is_bitwise_or_comparison kinds.NotEqual = true
is_bitwise_or_comparison _ = false

-- a binary operator or comparison, and what begins one
unfoldable pub is_binary : Kind → Bool
is_binary kinds.And = true
is_binary kinds.Or = true
is_binary kinds.In = true
is_binary kinds.Is = true
is_binary kinds.Not = true
is_binary kinds.Plus = true
is_binary kinds.Minus = true
is_binary kinds.Star = true
is_binary kinds.DoubleStar = true
is_binary kinds.Slash = true
is_binary kinds.DoubleSlash = true
is_binary kinds.Percent = true
is_binary kinds.At = true
is_binary kind = is_bitwise_or_comparison kind

-- what goes on with an operand: an operator, a conditional, an attribute, a subscript or a call
unfoldable pub goes_on_operand : Kind → Bool
goes_on_operand kinds.If = true
goes_on_operand kinds.Dot = true
goes_on_operand kinds.LeftParen = true
goes_on_operand kinds.LeftBracket = true
goes_on_operand kind = is_binary kind
