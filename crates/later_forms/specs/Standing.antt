-- What a token leaves of the level that it stands in, and of the level round a bracket that it closes.
use Rattle.std.specs.Prelude.{ℕ, Bool, true, false, codes, ◌-◌, ◌==◌, ◌&&◌, not, if◌then◌else◌}
use Rattle.std.specs.Str.{bytes_eq}
use Rattle.py_lexer.specs.declared.token.Kind.{Kind}
use Rattle.py_lexer.specs.declared.token.Kind.TheVariants as kinds
use Rattle.py_lexer.specs.declared.token.Value.{Value}
use Rattle.py_lexer.specs.declared.token.Value.TheVariants as values
use Rattle.py_lexer.specs.declared.token.Token.{Token}
use Rattle.later_forms.specs.declared.spot.Spot.{Spot}
use Rattle.later_forms.specs.declared.spot.Spot.TheVariants as spots
use Rattle.later_forms.specs.declared.level.Bracket.{Bracket}
use Rattle.later_forms.specs.declared.level.Bracket.TheVariants as brackets
use Rattle.later_forms.specs.declared.level.Content.{Content}
use Rattle.later_forms.specs.declared.level.Content.TheVariants.{Single, Starred, Barred, Pair, Several, Clauses}
use Rattle.later_forms.specs.declared.level.Callee.{Callee}
use Rattle.later_forms.specs.declared.level.Callee.TheVariants as callees
use Rattle.later_forms.specs.declared.level.Primary.{Primary}
use Rattle.later_forms.specs.declared.level.Level.{Level}
use Rattle.later_forms.specs.Spots.{is_behind, is_begin, goes_on_primary}
use Rattle.later_forms.specs.Levels.{is_outermost, may_hold_clauses}
use Rattle.later_forms.specs.Moves.{is_literal, is_group}

-- ---- headers

-- outside of all brackets these words begin a header (7.11, 8.3, 8.7, 8.8), and so does the sign of a decorator; these end it
unfoldable pub headed : Bracket → Spot → Kind → Bracket
headed b spot kinds.Def = brackets.Heading
headed b spot kinds.Class = brackets.Heading
headed b spot kinds.From = brackets.Heading
headed b spot kinds.Import = brackets.Heading
headed b spot kinds.For = brackets.Heading
headed b spot kinds.At = if is_behind spot then b else brackets.Heading
headed b spot kinds.In = brackets.Outside
headed b spot kinds.Colon = brackets.Outside
headed b spot kinds.Semicolon = brackets.Outside
headed b spot kinds.Arrow = brackets.Outside
headed b spot _ = b

abbrev pub bracket_behind : Level → Kind → Bracket
bracket_behind l kind = if is_outermost l.bracket then headed l.bracket l.spot kind else l.bracket

-- ---- what stands in a bracket

abbrev pub behind_comma : Content → Content
behind_comma Clauses = Clauses
behind_comma _ = Several

-- the first colon in braces is that of a pair (6.2.7)
abbrev pub behind_colon : Content → Content
behind_colon Single = Pair
behind_colon Starred = Pair
behind_colon content = content

unfoldable pub content_behind : Level → Kind → Content
content_behind l kinds.Comma = behind_comma l.content
content_behind l kinds.Colon = behind_colon l.content
content_behind l kinds.Equal = Barred
content_behind l kinds.Yield = Barred
content_behind l kinds.Star = if is_begin l.spot then Starred else l.content
content_behind l kinds.DoubleStar = if is_begin l.spot then Barred else l.content
content_behind l kinds.For = if may_hold_clauses l.bracket then Clauses else l.content
content_behind l _ = l.content

-- ---- conditionals (6.13); the `if` of a clause waits for none (6.2.4)

abbrev pub are_clauses : Content → Bool
are_clauses Clauses = true
are_clauses _ = false

unfoldable pub awaits_behind : Level → Kind → Bool
awaits_behind l kinds.If = is_behind l.spot && not (are_clauses l.content)
awaits_behind l kinds.Else = false
awaits_behind l _ = l.awaits_else

-- ---- primaries (6.3)

-- a call of a name or an attribute calls what it names
abbrev pub callee_named : Value → Callee
callee_named (values.Name name) = if bytes_eq name (codes "__init__") then callees.Init else callees.Named
callee_named _ = callees.Named

-- where the primary begins of which this token is a part
abbrev pub begun : ℕ → Level → ℕ
begun at l = if goes_on_primary l.spot then l.primary.begin else at

unfoldable pub primary_behind : ℕ → Token → Level → Kind → Primary
primary_behind at token l kinds.Name = record { begin = begun at l; callee = callee_named token.value }
primary_behind at token l kinds.Text = record { begin = begun at l; callee = callees.Unnamed }
primary_behind at token l kinds.Bytes = record { begin = begun at l; callee = callees.Unnamed }
primary_behind at token l kind = if is_literal kind then record { begin = begun at l; callee = callees.Unnamed } else l.primary

-- ---- levels

-- behind a token at this index that leads to a spot of the same level
unfoldable pub moved_to : ℕ → Token → Level → Spot → Level
moved_to at token l spot = record {
  bracket = bracket_behind l token.kind;
  opening = l.opening;
  spot = spot;
  content = content_behind l token.kind;
  awaits_else = awaits_behind l token.kind;
  primary = primary_behind at token l token.kind;
}

-- round a bracket that opens at this index, which begins a primary or goes on with one
abbrev pub round_opening : ℕ → Level → Level
round_opening at l = record l { primary = record { begin = begun at l; callee = l.primary.callee } }

-- where what stands in the level begins
abbrev pub first_spot : Bracket → Spot
first_spot brackets.Parameters = spots.Parameter
first_spot _ = spots.Begin

abbrev pub opened : ℕ → Bracket → Level
opened at b = record {
  bracket = b;
  opening = at;
  spot = first_spot b;
  content = Single;
  awaits_else = false;
  primary = record { begin = at; callee = callees.Unnamed };
}

-- parentheses round one primary alone group it, and make no node (6.2.3): a call of them calls what a call of it would
abbrev pub is_wrapping : Level → Bool
is_wrapping l = is_group l.bracket && (is_behind l.spot && (l.primary.begin - l.opening == 1))

abbrev pub callee_behind : Level → Callee
callee_behind inner = if is_wrapping inner then inner.primary.callee else callees.Unnamed

abbrev pub round_closing : Level → Level → Spot → Level
round_closing inner l spot = record l { spot = spot; primary = record { begin = l.primary.begin; callee = callee_behind inner } }
