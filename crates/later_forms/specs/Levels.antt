-- What is known of an open bracket, or of what stands outside of all (Language Reference, 6.2, 6.3 and 6.13).
use Rattle.std.specs.Prelude.{Bool, true, false, ◌&&◌, ◌||◌, not}
use Rattle.py_lexer.specs.declared.token.Kind.{Kind}
use Rattle.py_lexer.specs.declared.token.Kind.TheVariants as kinds
use Rattle.later_forms.specs.declared.spot.Spot.{Spot}
use Rattle.later_forms.specs.declared.spot.Spot.TheVariants as spots
use Rattle.later_forms.specs.declared.level.Bracket.{Bracket}
use Rattle.later_forms.specs.declared.level.Bracket.TheVariants as brackets
use Rattle.later_forms.specs.declared.level.Content.{Content}
use Rattle.later_forms.specs.declared.level.Content.TheVariants as contents
use Rattle.later_forms.specs.declared.level.Level.{Level}
use Rattle.later_forms.specs.Spots.{is_behind, is_item, is_behind_async}

abbrev pub is_outermost : Bracket → Bool
is_outermost brackets.Outside = true
is_outermost brackets.Heading = true
is_outermost _ = false

-- a statement's own words may stand there (7 and 8)
abbrev pub is_of_statement : Bracket → Bool
is_of_statement brackets.Header = true
is_of_statement b = is_outermost b

-- a comprehension or generator expression may stand there (6.2.4 to 6.2.8, 6.3.4)
abbrev pub may_hold_clauses : Bracket → Bool
may_hold_clauses brackets.Group = true
may_hold_clauses brackets.Call = true
may_hold_clauses brackets.Listing = true
may_hold_clauses brackets.Braces = true
may_hold_clauses _ = false

-- an element of a comprehension is one assignment expression, or one pair (6.2.4, 6.2.7)
abbrev pub takes_clauses : Content → Bool
takes_clauses contents.Single = true
takes_clauses contents.Pair = true
takes_clauses contents.Clauses = true
takes_clauses _ = false

-- the first item of a set is an expression, perhaps with a star (6.2.6)
abbrev pub may_be_set : Content → Bool
may_be_set contents.Single = true
may_be_set contents.Starred = true
may_be_set _ = false

abbrev pub is_braces : Bracket → Bool
is_braces brackets.Braces = true
is_braces _ = false

-- an expression ends there (6.13)
abbrev pub is_whole : Level → Bool
is_whole l = is_behind l.spot && not l.awaits_else

-- the `for` of a clause goes on there, or its `async` (6.2.4)
abbrev pub begins_clause : Level → Bool
begins_clause l = may_hold_clauses l.bracket && (takes_clauses l.content && (is_whole l || is_behind_async l.spot))

abbrev pub begins_async : Level → Bool
begins_async l = may_hold_clauses l.bracket && (takes_clauses l.content && is_whole l)

-- the first item of a set ends there
abbrev pub is_set : Level → Bool
is_set l = is_braces l.bracket && (may_be_set l.content && is_whole l)

-- which token closes which bracket
abbrev pub closed_by : Bracket → Kind → Bool
closed_by brackets.Group kinds.RightParen = true
closed_by brackets.Call kinds.RightParen = true
closed_by brackets.Header kinds.RightParen = true
closed_by brackets.Header kinds.RightBracket = true
closed_by brackets.Listing kinds.RightBracket = true
closed_by brackets.Subscript kinds.RightBracket = true
closed_by brackets.Braces kinds.RightBrace = true
closed_by brackets.Field kinds.FieldClose = true
closed_by _ _ = false

-- a bracket may close behind a comma or a slice's colon; directly behind its opening where it may be empty
abbrev pub may_end : Bracket → Spot → Bool
may_end brackets.Subscript spots.Begin = false
may_end brackets.Field spots.Begin = false
may_end b spots.Begin = true
may_end b spots.Item = true
may_end b spots.Slice = true
may_end b _ = false

abbrev pub is_complete : Level → Bool
is_complete l = is_whole l || may_end l.bracket l.spot

-- the subject of a `match` is one expression, or items with a comma behind the first, which may have stars (8.6)
abbrev pub is_starred : Content → Bool
is_starred contents.Starred = true
is_starred _ = false

abbrev pub ends_subject : Level → Bool
ends_subject l = (is_whole l && not (is_starred l.content)) || is_item l.spot
