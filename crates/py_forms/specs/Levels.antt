-- The innermost open bracket of a run of tokens, and what stands inside of it. A run is a list of roles, the last token first.
use Rattle.std.specs.Prelude.{ℕ, Bool, true, false, ◌+◌, ◌-◌, ◌==◌, List, [], ◌∷◌, Option, Some, None, if◌then◌else◌}
use Rattle.std.specs.List.{list_any}
use Rattle.py_forms.specs.declared.role.Role.{Role}
use Rattle.py_forms.specs.declared.role.Role.TheVariants as roles
use Rattle.py_forms.specs.declared.level.Bracket.{Bracket}
use Rattle.py_forms.specs.declared.level.Bracket.TheVariants as brackets
use Rattle.py_forms.specs.declared.level.Step.{Step}
use Rattle.py_forms.specs.declared.level.Step.TheVariants.{Skip, Inside, Open}
use Rattle.py_forms.specs.declared.level.Separator.{Separator}
use Rattle.py_forms.specs.declared.level.Separator.TheVariants as separators

-- what opens and what closes a bracket; a formatted string is one, and each of its fields is one inside of it
unfoldable pub opens : Role → Bool
opens roles.LeftParen = true
opens roles.LeftBracket = true
opens roles.LeftBrace = true
opens roles.FieldOpen = true
opens roles.FStringStart = true
opens _ = false

unfoldable pub closes : Role → Bool
closes roles.RightParen = true
closes roles.RightBracket = true
closes roles.RightBrace = true
closes roles.FieldClose = true
closes roles.FStringEnd = true
closes _ = false

-- the tokens with which an operand may end (Language Reference, 6.2 and 6.3)
unfoldable pub ends_operand : Role → Bool
ends_operand roles.Name = true
ends_operand roles.Super = true
ends_operand roles.Init = true
ends_operand roles.Literal = true
ends_operand roles.Text = true
ends_operand roles.Float = true
ends_operand roles.Bytes = true
ends_operand roles.FStringEnd = true
ends_operand roles.RightParen = true
ends_operand roles.RightBracket = true
ends_operand roles.RightBrace = true
ends_operand _ = false

-- an operand ends here
abbrev pub is_behind_operand : List Role → Bool
is_behind_operand [] = false
is_behind_operand (role ∷ before) = ends_operand role

-- from the end of a run on back, with n brackets that close behind this token and don't open there
unfoldable pub step : ℕ → Role → Step
step n role =
    if closes role then Skip (n + 1) else (
    if opens role then (if n == 0 then Open else Skip (n - 1)) else (
    if n == 0 then Inside else Skip n))

-- the innermost open bracket and all before it
unfoldable pub outer : ℕ → List Role → List Role
outer n [] = []
outer n (role ∷ before) =
    elim (step n role) as (λ s. List Role) [ Skip m ↦ outer m before | Inside ↦ outer 0 before | Open ↦ role ∷ before ]

-- what stands inside the innermost open bracket, and inside no bracket that closes again
unfoldable pub inner : ℕ → List Role → List Role
inner n [] = []
inner n (role ∷ before) =
    elim (step n role) as (λ s. List Role) [ Skip m ↦ inner m before | Inside ↦ role ∷ inner 0 before | Open ↦ [] ]

-- a parenthesis or square bracket behind an operand is that of a call or a subscript (6.3), any other that of a group or a
-- display (6.2)
abbrev pub bracket_by : Role → List Role → Bracket
bracket_by roles.LeftParen before = if is_behind_operand before then brackets.Call else brackets.Group
bracket_by roles.LeftBracket before = if is_behind_operand before then brackets.Subscript else brackets.Listing
bracket_by roles.LeftBrace before = brackets.Braces
bracket_by roles.FieldOpen before = brackets.Field
bracket_by _ before = brackets.Outside

abbrev pub bracket_of : List Role → Bracket
bracket_of [] = brackets.Outside
bracket_of (role ∷ before) = bracket_by role before

-- the innermost open bracket of a run
abbrev pub bracket : List Role → Bracket
bracket back = bracket_of (outer 0 back)

-- a separator of items stands in the innermost open bracket
abbrev pub separates : Separator → Role → Bool
separates separators.Comma roles.Comma = true
separates separators.Colon roles.Colon = true
separates separators.Equal roles.Equal = true
separates _ _ = false

unfoldable pub has_by : ℕ → Separator → List Role → Bool
has_by n separator back = list_any (separates separator) (inner n back)

abbrev pub has : Separator → List Role → Bool
has separator back = has_by 0 separator back

-- the last item waits for its `else`: a conditional has begun (6.13), and a separator, or the `else`, would stand nearer
abbrev pub waits_at : Role → Option Bool
waits_at roles.If = Some true
waits_at roles.Else = Some false
waits_at roles.Comma = Some false
waits_at roles.Colon = Some false
waits_at roles.Equal = Some false
waits_at _ = None

abbrev pub waits_by : Option Bool → Bool → Bool
waits_by (Some waits) further = waits
waits_by None further = further

unfoldable pub waits_in : List Role → Bool
waits_in [] = false
waits_in (role ∷ before) = waits_by (waits_at role) (waits_in before)

unfoldable pub waits_for_else : ℕ → List Role → Bool
waits_for_else n back = waits_in (inner n back)
