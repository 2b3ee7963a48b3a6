-- What may begin behind a run (Language Reference, 6.2 to 6.14 and 10). A run is a list of roles, the last token first.
use Rattle.std.specs.Prelude.{Bool, true, false, List, [], ◌∷◌, if◌then◌else◌}
use Rattle.py_forms.specs.declared.role.Role.{Role}
use Rattle.py_forms.specs.declared.role.Role.TheVariants as roles
use Rattle.py_forms.specs.declared.level.Bracket.{Bracket}
use Rattle.py_forms.specs.declared.level.Bracket.TheVariants as brackets
use Rattle.py_forms.specs.declared.level.Separator.TheVariants as separators
use Rattle.py_forms.specs.declared.spot.Spot.{Spot}
use Rattle.py_forms.specs.declared.spot.Spot.TheVariants.{Start, First, Later, BehindKeyword, Value, Operand, Nowhere}
use Rattle.py_forms.specs.Levels.{is_behind_operand, bracket_by, bracket, has}

-- behind an argument with a keyword there is no positional one (6.3.4); `not` behind an operand is half of `not in` (6.10.2)
abbrev pub spot_by : Role → List Role → Spot
spot_by roles.LeftParen before = First (bracket_by roles.LeftParen before)
spot_by roles.LeftBracket before = First (bracket_by roles.LeftBracket before)
spot_by roles.LeftBrace before = First brackets.Braces
spot_by roles.FieldOpen before = First brackets.Field
spot_by roles.Comma before = if has separators.Equal before then BehindKeyword else Later (bracket before)
spot_by roles.Colon before = Value
spot_by roles.Equal before = Value
spot_by roles.Else before = Value
spot_by roles.If before = Operand
spot_by roles.Star before = Operand
spot_by roles.DoubleStar before = Operand
spot_by roles.Operator before = Operand
spot_by roles.Not before = if is_behind_operand before then Nowhere else Operand
spot_by _ before = Nowhere

abbrev pub spot : List Role → Spot
spot [] = Start
spot (role ∷ before) = spot_by role before

-- an operand
abbrev pub takes_operand : Spot → Bool
takes_operand Start = true
takes_operand (First _) = true
takes_operand (Later _) = true
takes_operand BehindKeyword = false
takes_operand Value = true
takes_operand Operand = true
takes_operand Nowhere = false

-- a whole expression, which a `lambda` may be (6.14)
abbrev pub takes_expression : Spot → Bool
takes_expression Start = true
takes_expression (First _) = true
takes_expression (Later _) = true
takes_expression BehindKeyword = false
takes_expression Value = true
takes_expression Operand = false
takes_expression Nowhere = false

-- an argument with a keyword
abbrev pub takes_keyword : Spot → Bool
takes_keyword (First brackets.Call) = true
takes_keyword (Later brackets.Call) = true
takes_keyword BehindKeyword = true
takes_keyword _ = false

-- a `yield` (6.2.9)
abbrev pub takes_yield : Spot → Bool
takes_yield (First brackets.Group) = true
takes_yield _ = false

-- a further item with a star, or a further named expression: in braces only a pair follows a pair
abbrev pub takes_item : Bracket → Bool
takes_item brackets.Group = true
takes_item brackets.Call = true
takes_item brackets.Listing = true
takes_item brackets.Subscript = true
takes_item _ = false

-- a starred item or argument
abbrev pub takes_star : Spot → Bool
takes_star (First _) = true
takes_star (Later bracket) = takes_item bracket
takes_star BehindKeyword = true
takes_star _ = false

-- a pair or argument with two stars
abbrev pub takes_mapping : Bracket → Bool
takes_mapping brackets.Call = true
takes_mapping brackets.Braces = true
takes_mapping _ = false

abbrev pub takes_double_star : Spot → Bool
takes_double_star (First bracket) = takes_mapping bracket
takes_double_star (Later bracket) = takes_mapping bracket
takes_double_star BehindKeyword = true
takes_double_star _ = false

-- a named expression (6.12)
abbrev pub takes_first_named : Bracket → Bool
takes_first_named brackets.Field = false
takes_first_named brackets.Outside = false
takes_first_named _ = true

abbrev pub takes_named : Spot → Bool
takes_named (First bracket) = takes_first_named bracket
takes_named (Later bracket) = takes_item bracket
takes_named _ = false

-- a slice without its lower bound (6.3.3)
abbrev pub takes_slice : Spot → Bool
takes_slice (First brackets.Subscript) = true
takes_slice (Later brackets.Subscript) = true
takes_slice _ = false
