-- The open brackets, one inside the other, and how a token moves them.
use Rattle.std.specs.Prelude.{ℕ, Bool, List, [], ◌∷◌, Option, Some, None}
use Rattle.py_lexer.specs.declared.token.Token.{Token}
use Rattle.later_forms.specs.declared.spot.Spot.{Spot}
use Rattle.later_forms.specs.declared.level.Bracket.{Bracket}
use Rattle.later_forms.specs.declared.level.Bracket.TheVariants as brackets
use Rattle.later_forms.specs.declared.level.Level.{Level}
use Rattle.later_forms.specs.declared.moves.Move.{Move}
use Rattle.later_forms.specs.declared.moves.Move.TheVariants.{To, Opens, Closes, Nowhere}
use Rattle.later_forms.specs.declared.nesting.Nesting.{Nesting}
use Rattle.later_forms.specs.Moves.{leads}
use Rattle.later_forms.specs.Standing.{moved_to, round_opening, opened, round_closing}

-- at this index what has no bracket round it begins
abbrev pub alone : ℕ → Bracket → Nesting
alone at bracket = record { innermost = opened at bracket; round = [] }

abbrev pub outside : ℕ → Nesting
outside at = alone at brackets.Outside

-- in a bracket that opens at this index
abbrev pub with_bracket : ℕ → Bracket → Nesting → Nesting
with_bracket at bracket n = record { innermost = opened at bracket; round = round_opening at n.innermost ∷ n.round }

-- behind one that closes
abbrev pub closed : Level → List Level → Spot → Option Nesting
closed inner [] spot = None
closed inner (l ∷ ls) spot = Some (record { innermost = round_closing inner l spot; round = ls })

abbrev pub moved : Move → ℕ → Token → Nesting → Option Nesting
moved (To spot) at token n = Some (record { innermost = moved_to at token n.innermost spot; round = n.round })
moved (Opens bracket) at token n = Some (with_bracket at bracket n)
moved (Closes spot) at token n = closed n.innermost n.round spot
moved Nowhere at token n = None

-- behind a token at this index, which stands before the stop or from there on; nothing where the full grammar doesn't go on
unfoldable pub advanced : (stopped : Bool) → ℕ → Token → Nesting → Option Nesting
advanced stopped at token n = moved (leads stopped n.innermost token.kind) at token n
