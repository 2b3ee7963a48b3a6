-- What one token of lookahead tells: the class of a token, as a number.
use Rattle.std.specs.Prelude.{ℕ, Bool, cond, ◌==◌, List, [], ◌∷◌, Option, Some, None}
use Rattle.rv_names.specs.Keys.{bytes_equal}
use Rattle.py_literals.specs.declared.place.Pos.{Pos}
use Rattle.phrases.specs.Sets.{has}
use Rattle.py_lexer.specs.declared.token.Kind.{Kind}
use Rattle.py_lexer.specs.declared.token.Kind.TheVariants as kinds
use Rattle.py_lexer.specs.declared.token.Value.{Value}
use Rattle.py_lexer.specs.declared.token.Value.TheVariants as values
use Rattle.py_lexer.specs.declared.token.Token.{Token}

-- the name `super`, which is no operand of the subset
abbrev pub is_super : List ℕ → Bool
is_super name = bytes_equal name (115 ∷ 117 ∷ 112 ∷ 101 ∷ 114 ∷ [])

-- the name `__init__`, which is not called
abbrev pub is_init : List ℕ → Bool
is_init name = bytes_equal name (95 ∷ 95 ∷ 105 ∷ 110 ∷ 105 ∷ 116 ∷ 95 ∷ 95 ∷ [])

-- Names, numbers and texts carry what they stand for. A token that does not is of no kind of the grammar: its class is 0.
abbrev pub name_class : Value → ℕ
name_class (values.Name n) = cond (is_super n) 2 1
name_class _ = 0

abbrev pub number_class : Value → ℕ
number_class (values.Whole n) = 3
number_class _ = 0

abbrev pub text_class : Value → ℕ
text_class (values.Text s) = 4
text_class _ = 0

abbrev pub part_text_class : Value → ℕ
part_text_class (values.Text s) = 11
part_text_class _ = 0

abbrev pub class_of : Kind → Value → ℕ
class_of kinds.Newline v = 5
class_of kinds.Indent v = 6
class_of kinds.Dedent v = 7
class_of kinds.Name v = name_class v
class_of kinds.Number v = number_class v
class_of kinds.Float v = 8
class_of kinds.Text v = text_class v
class_of kinds.Bytes v = 9
class_of kinds.FStringStart v = 10
class_of kinds.FStringText v = part_text_class v
class_of kinds.FieldOpen v = 12
class_of kinds.FieldClose v = 13
class_of kinds.FStringEnd v = 14
class_of kinds.False v = 15
class_of kinds.None v = 16
class_of kinds.True v = 17
class_of kinds.And v = 18
class_of kinds.As v = 19
class_of kinds.Assert v = 20
class_of kinds.Async v = 21
class_of kinds.Await v = 22
class_of kinds.Break v = 23
class_of kinds.Class v = 24
class_of kinds.Continue v = 25
class_of kinds.Def v = 26
class_of kinds.Del v = 27
class_of kinds.Elif v = 28
class_of kinds.Else v = 29
class_of kinds.Except v = 30
class_of kinds.Finally v = 31
class_of kinds.For v = 32
class_of kinds.From v = 33
class_of kinds.Global v = 34
class_of kinds.If v = 35
class_of kinds.Import v = 36
class_of kinds.In v = 37
class_of kinds.Is v = 38
class_of kinds.Lambda v = 39
class_of kinds.Nonlocal v = 40
class_of kinds.Not v = 41
class_of kinds.Or v = 42
class_of kinds.Pass v = 43
class_of kinds.Raise v = 44
class_of kinds.Return v = 45
class_of kinds.Try v = 46
class_of kinds.While v = 47
class_of kinds.With v = 48
class_of kinds.Yield v = 49
class_of kinds.Plus v = 50
class_of kinds.Minus v = 51
class_of kinds.Star v = 52
class_of kinds.DoubleStar v = 53
class_of kinds.Slash v = 54
class_of kinds.DoubleSlash v = 55
class_of kinds.Percent v = 56
class_of kinds.At v = 57
class_of kinds.LeftShift v = 58
class_of kinds.RightShift v = 59
class_of kinds.Ampersand v = 60
class_of kinds.Bar v = 61
class_of kinds.Caret v = 62
class_of kinds.Tilde v = 63
class_of kinds.ColonEqual v = 64
class_of kinds.Less v = 65
class_of kinds.Greater v = 66
class_of kinds.LessEqual v = 67
class_of kinds.GreaterEqual v = 68
class_of kinds.DoubleEqual v = 69
class_of kinds.NotEqual v = 70
class_of kinds.LeftParen v = 71
class_of kinds.RightParen v = 72
class_of kinds.LeftBracket v = 73
class_of kinds.RightBracket v = 74
class_of kinds.LeftBrace v = 75
class_of kinds.RightBrace v = 76
class_of kinds.Comma v = 77
class_of kinds.Colon v = 78
class_of kinds.Dot v = 79
class_of kinds.Semicolon v = 80
class_of kinds.Equal v = 81
class_of kinds.Arrow v = 82
class_of kinds.PlusEqual v = 83
class_of kinds.MinusEqual v = 84
class_of kinds.StarEqual v = 85
class_of kinds.SlashEqual v = 86
class_of kinds.DoubleSlashEqual v = 87
class_of kinds.PercentEqual v = 88
class_of kinds.AtEqual v = 89
class_of kinds.AmpersandEqual v = 90
class_of kinds.BarEqual v = 91
class_of kinds.CaretEqual v = 92
class_of kinds.RightShiftEqual v = 93
class_of kinds.LeftShiftEqual v = 94
class_of kinds.DoubleStarEqual v = 95
class_of kinds.Ellipsis v = 96

abbrev pub class : Token → ℕ
class t = class_of t.kind t.value

-- the classes of the tokens that carry a value
abbrev pub name_code : ℕ
name_code = 1

abbrev pub super_code : ℕ
super_code = 2

abbrev pub number_code : ℕ
number_code = 3

abbrev pub text_code : ℕ
text_code = 4

abbrev pub part_text_code : ℕ
part_text_code = 11

-- and those of the others
abbrev pub code : Kind → ℕ
code k = class_of k values.Nothing

-- what a token stands for, where its class is one of these
abbrev pub pick : {A : Type 0} → List ℕ → (Token → Option A) → Token → Option A
pick codes value t = cond (has codes (class t)) (value t) None

abbrev pub place_of : Token → Option Pos
place_of t = Some t.at

-- the place of a token of one class
abbrev pub mark_of : ℕ → Token → Option Pos
mark_of c = pick (c ∷ []) place_of

abbrev pub placed : {A : Type 0} → Option A → Pos → Option (A × Pos)
placed None at = None
placed (Some a) at = Some (a, at)
