-- Where a token leads, by which token may stand behind which in which bracket (Language Reference, 6 and 10).
use Rattle.std.specs.Prelude.{Bool, true, false, ◌&&◌, ◌||◌, not, if◌then◌else◌}
use Rattle.py_lexer.specs.declared.token.Kind.{Kind}
use Rattle.py_lexer.specs.declared.token.Kind.TheVariants as kinds
use Rattle.later_forms.specs.declared.spot.Spot.{Spot}
use Rattle.later_forms.specs.declared.spot.Spot.TheVariants as spots
use Rattle.later_forms.specs.declared.level.Bracket.{Bracket}
use Rattle.later_forms.specs.declared.level.Bracket.TheVariants as brackets
use Rattle.later_forms.specs.declared.level.Content.{Content}
use Rattle.later_forms.specs.declared.level.Content.TheVariants as contents
use Rattle.later_forms.specs.declared.level.Level.{Level}
use Rattle.later_forms.specs.declared.moves.Move.{Move}
use Rattle.later_forms.specs.declared.moves.Move.TheVariants.{To, Opens, Closes, Nowhere}
use Rattle.later_forms.specs.Spots.{is_behind, is_begin, is_item, is_slice, is_parameter, wants_operand, takes_name, takes_string, takes_expression}
use Rattle.later_forms.specs.Levels.{is_outermost, is_of_statement, is_whole, begins_clause, begins_async, closed_by, is_complete}

abbrev pub only_if : Bool → Move → Move
only_if true move = move
only_if false move = Nowhere

-- ---- brackets

abbrev pub is_formatted : Bracket → Bool
is_formatted brackets.Formatted = true
is_formatted _ = false

abbrev pub is_group : Bracket → Bool
is_group brackets.Group = true
is_group _ = false

-- an argument with a keyword (6.3.4), and the default of a parameter (6.14, 8.7)
abbrev pub takes_equal : Bracket → Bool
takes_equal brackets.Call = true
takes_equal brackets.Header = true
takes_equal brackets.Parameters = true
takes_equal _ = false

-- a comma behind an item (6.2.3 to 6.2.7, 6.3.3, 6.3.4), or behind a parameter
abbrev pub comma_moves : Bracket → Level → Move
comma_moves brackets.Outside l = Nowhere
comma_moves brackets.Heading l = Nowhere
comma_moves brackets.Formatted l = Nowhere
comma_moves brackets.Parameters l = only_if (is_whole l || is_parameter l.spot) (To spots.Parameter)
comma_moves brackets.Subscript l = only_if (is_whole l || is_slice l.spot) (To spots.Item)
comma_moves _ l = only_if (is_whole l) (To spots.Item)

-- a colon of a slice (6.3.3), of a pair (6.2.7), before an annotation (8.7) or before the body of a lambda (6.14)
abbrev pub colon_moves : Bracket → Level → Move
colon_moves brackets.Parameters l = only_if (is_whole l || is_parameter l.spot) (Closes spots.Value)
colon_moves brackets.Subscript l = only_if (is_complete l || is_begin l.spot) (To spots.Slice)
colon_moves brackets.Braces l = only_if (is_whole l) (To spots.Value)
colon_moves brackets.Header l = only_if (is_whole l) (To spots.Value)
colon_moves _ l = Nowhere

-- where an operand may begin one bracket opens, and behind an operand another one (6.2, 6.3); in a header its own (8.3, 8.7, 8.8)
abbrev pub opens_at : Spot → Bracket → Bracket → Move
opens_at spot first behind = if wants_operand spot then Opens first else only_if (is_behind spot) (Opens behind)

abbrev pub opening_moves : Bracket → Spot → Bracket → Bracket → Move
opening_moves brackets.Heading spot first behind = opens_at spot brackets.Header brackets.Header
opening_moves _ spot first behind = opens_at spot first behind

unfoldable pub bracket_moves : Level → Kind → Move
bracket_moves l kinds.Comma = comma_moves l.bracket l
bracket_moves l kinds.Colon = colon_moves l.bracket l
bracket_moves l kinds.Dot = only_if (is_behind l.spot) (To spots.Attribute)
bracket_moves l kinds.LeftParen = opening_moves l.bracket l.spot brackets.Group brackets.Call
bracket_moves l kinds.LeftBracket = opening_moves l.bracket l.spot brackets.Listing brackets.Subscript
bracket_moves l kinds.LeftBrace = only_if (wants_operand l.spot) (Opens brackets.Braces)
bracket_moves l kind = only_if (closed_by l.bracket kind && is_complete l) (Closes spots.Behind)

-- ---- operators (6.5 to 6.10, 6.12)

-- a star before an item or argument, before a parameter, or between operands
abbrev pub star_moves : Spot → Move
star_moves spots.Begin = To spots.Value
star_moves spots.Item = To spots.Value
star_moves spots.Parameter = To spots.Parameter
star_moves spot = only_if (is_behind spot) (To spots.Operand)

abbrev pub slash_moves : Spot → Move
slash_moves spots.Parameter = To spots.Parameter
slash_moves spot = only_if (is_behind spot) (To spots.Operand)

unfoldable pub is_binary : Kind → Bool
is_binary kinds.DoubleSlash = true
is_binary kinds.Percent = true
is_binary kinds.At = true
is_binary kinds.LeftShift = true
is_binary kinds.RightShift = true
is_binary kinds.Ampersand = true
is_binary kinds.Bar = true
is_binary kinds.Caret = true
is_binary kinds.Less = true
is_binary kinds.Greater = true
is_binary kinds.LessEqual = true
is_binary kinds.GreaterEqual = true
is_binary kinds.DoubleEqual = true
is_binary kinds.NotEqual = true
is_binary _ = false

unfoldable pub operator_moves : Level → Kind → Move
operator_moves l kinds.Plus = only_if (wants_operand l.spot || is_behind l.spot) (To spots.Operand)
operator_moves l kinds.Minus = only_if (wants_operand l.spot || is_behind l.spot) (To spots.Operand)
operator_moves l kinds.Tilde = only_if (wants_operand l.spot) (To spots.Operand)
operator_moves l kinds.Star = star_moves l.spot
operator_moves l kinds.DoubleStar = star_moves l.spot
operator_moves l kinds.Slash = slash_moves l.spot
operator_moves l kinds.ColonEqual = only_if (is_behind l.spot) (To spots.Value)
operator_moves l kinds.Equal = only_if (takes_equal l.bracket && is_whole l) (To spots.Value)
operator_moves l kind = if is_binary kind then only_if (is_behind l.spot) (To spots.Operand) else bracket_moves l kind

-- ---- words (6.2.4, 6.2.9, 6.4, 6.10, 6.11, 6.13, 6.14)

abbrev pub not_moves : Spot → Move
not_moves spots.BehindIs = To spots.Operand
not_moves spots.Inversion = To spots.Inversion
not_moves spot = if takes_expression spot then To spots.Inversion else only_if (is_behind spot) (To spots.NotIn)

-- a comma may end the targets of a clause (6.2.4, 7.2)
abbrev pub in_moves : Spot → Content → Move
in_moves spots.NotIn content = To spots.Operand
in_moves spots.Item contents.Clauses = To spots.Inversion
in_moves spot content = only_if (is_behind spot) (To spots.Inversion)

unfoldable pub word_moves : Level → Kind → Move
word_moves l kinds.Not = not_moves l.spot
word_moves l kinds.In = in_moves l.spot l.content
word_moves l kinds.Is = only_if (is_behind l.spot) (To spots.BehindIs)
word_moves l kinds.And = only_if (is_behind l.spot) (To spots.Inversion)
word_moves l kinds.Or = only_if (is_behind l.spot) (To spots.Inversion)
word_moves l kinds.If = only_if (is_whole l) (To spots.Inversion)
word_moves l kinds.Else = only_if (is_behind l.spot && l.awaits_else) (To spots.Value)
word_moves l kinds.Await = only_if (wants_operand l.spot) (To spots.Operand)
word_moves l kinds.Lambda = only_if (takes_expression l.spot) (Opens brackets.Parameters)
word_moves l kinds.Yield = only_if (is_group l.bracket && is_begin l.spot) (To spots.Item)
word_moves l kinds.From = only_if (is_group l.bracket && is_item l.spot) (To spots.Value)
word_moves l kinds.Async = only_if (begins_async l) (To spots.BehindAsync)
word_moves l kinds.For = only_if (begins_clause l) (To spots.Item)
word_moves l kind = operator_moves l kind

-- ---- names and literals (2.3, 2.4, 6.2.1, 6.2.2), and all

unfoldable pub is_literal : Kind → Bool
is_literal kinds.Number = true
is_literal kinds.Float = true
is_literal kinds.False = true
is_literal kinds.None = true
is_literal kinds.True = true
is_literal kinds.Ellipsis = true
is_literal _ = false

unfoldable pub moves : Level → Kind → Move
moves l kinds.Name = only_if (takes_name l.spot) (To spots.Behind)
moves l kinds.Text = only_if (takes_string l.spot) (To spots.BehindString)
moves l kinds.Bytes = only_if (takes_string l.spot) (To spots.BehindString)
moves l kinds.FStringStart = only_if (takes_string l.spot) (Opens brackets.Formatted)
moves l kinds.FStringText = only_if (is_formatted l.bracket) (To l.spot)
moves l kinds.FieldOpen = only_if (is_formatted l.bracket) (Opens brackets.Field)
moves l kinds.FStringEnd = only_if (is_formatted l.bracket) (Closes spots.BehindString)
moves l kind = if is_literal kind then only_if (wants_operand l.spot) (To spots.Behind) else word_moves l kind

-- ---- statements

-- before the stop a statement's own words and signs stand too, behind which an expression may begin
abbrev pub value_at : Bracket → Move → Move
value_at b Nowhere = only_if (is_of_statement b) (To spots.Value)
value_at b move = move

-- from the stop on, outside of all brackets, only what goes on with the primary that stands there does (6.3)
unfoldable pub continues : Spot → Kind → Bool
continues spots.Attribute kind = true
continues spots.BehindString kinds.Text = true
continues spots.BehindString kinds.Bytes = true
continues spots.BehindString kinds.FStringStart = true
continues spot kinds.Dot = is_behind spot
continues spot kinds.LeftParen = is_behind spot
continues spot kinds.LeftBracket = is_behind spot
continues spot _ = false

-- where a token leads that stands before the stop, or from there on
unfoldable pub leads : (stopped : Bool) → Level → Kind → Move
leads false l kind = value_at l.bracket (moves l kind)
leads true l kind = only_if (not (is_outermost l.bracket) || continues l.spot kind) (moves l kind)
