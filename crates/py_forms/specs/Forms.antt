-- The form that a token tells behind a run of an expression, and the place of its first token in the run and what follows it.
-- A run is a list of roles, the last token first; what follows it is one, the first token first. A form is told where the full
-- grammar of the Language Reference (10) goes on with the token, and the subset doesn't.
use Rattle.std.specs.Prelude.{ℕ, Bool, true, false, ◌-◌, ◌&&◌, ◌||◌, not, List, [], ◌∷◌, length, Option, Some, None, if◌then◌else◌}
use Rattle.py_lexer.specs.declared.form.Form.{Form}
use Rattle.py_lexer.specs.declared.form.Form.TheVariants as forms
use Rattle.py_forms.specs.declared.role.Role.{Role}
use Rattle.py_forms.specs.declared.role.Role.TheVariants as roles
use Rattle.py_forms.specs.declared.level.Bracket.{Bracket}
use Rattle.py_forms.specs.declared.level.Bracket.TheVariants as brackets
use Rattle.py_forms.specs.declared.level.Separator.TheVariants as separators
use Rattle.py_forms.specs.declared.primary.Callee.{Callee}
use Rattle.py_forms.specs.declared.primary.Callee.TheVariants as callees
use Rattle.py_forms.specs.declared.telling.ToldForm.{ToldForm}
use Rattle.py_forms.specs.Levels.{is_behind_operand, outer, bracket, has, waits_for_else}
use Rattle.py_forms.specs.Primaries.{before_primary, callee}
use Rattle.py_forms.specs.Spots.{spot, takes_operand, takes_expression, takes_keyword, takes_yield, takes_star, takes_double_star, takes_named, takes_slice}

abbrev pub told_if : Bool → Form → ℕ → Option ToldForm
told_if b form place = if b then Some (record { form = form; place = place }) else None

-- an expression of the innermost open bracket ends here
abbrev pub is_whole : List Role → Bool
is_whole back = is_behind_operand back && not (waits_for_else 0 back)

-- the place of the innermost open bracket
abbrev pub bracket_place : List Role → ℕ
bracket_place back = length (outer 0 back) - 1

-- the first expression of a group, list or set, the first pair of a dictionary, or the only argument of a call, ends here: a
-- comprehension or generator expression may go on with its `for` (6.2.4 to 6.2.8, 6.3.4)
abbrev pub may_hold_comprehension : Bracket → Bool
may_hold_comprehension brackets.Group = true
may_hold_comprehension brackets.Call = true
may_hold_comprehension brackets.Listing = true
may_hold_comprehension brackets.Braces = true
may_hold_comprehension _ = false

abbrev pub is_first_whole : List Role → Bool
is_first_whole back = not (has separators.Comma back) && (not (has separators.Equal back) && is_whole back)

abbrev pub comprehension : List Role → Option ToldForm
comprehension back = told_if (may_hold_comprehension (bracket back) && is_first_whole back) forms.Comprehension (bracket_place back)

-- `async` begins one only before its `for`
abbrev pub async_comprehension : List Role → List Role → Option ToldForm
async_comprehension back (roles.For ∷ after) = comprehension back
async_comprehension back _ = None

-- `:=` behind a name (6.12)
abbrev pub walrus : List Role → Option ToldForm
walrus (roles.Name ∷ before) = told_if (takes_named (spot before)) forms.Walrus (length before)
walrus (roles.Init ∷ before) = told_if (takes_named (spot before)) forms.Walrus (length before)
walrus _ = None

-- the parenthesis of a call whose callee the subset leaves out (6.3.4), at the callee's first token
abbrev pub call_by : Callee → ℕ → Option ToldForm
call_by callees.Named place = None
call_by callees.Init place = Some (record { form = forms.InitCall; place = place })
call_by callees.Unnamed place = Some (record { form = forms.Callee; place = place })

abbrev pub call : List Role → Option ToldForm
call back =
    if is_behind_operand back && takes_operand (spot (before_primary 0 back))
    then call_by (callee back) (length (before_primary 0 back)) else None

-- the colon of a slice (6.3.3)
abbrev pub is_subscript : Bracket → Bool
is_subscript brackets.Subscript = true
is_subscript _ = false

abbrev pub slice : List Role → Option ToldForm
slice back = told_if (takes_slice (spot back) || (is_subscript (bracket back) && is_whole back)) forms.Slice (length back)

-- a comma or brace behind the first expression in braces, which so are those of a set (6.2.6)
abbrev pub is_braces : Bracket → Bool
is_braces brackets.Braces = true
is_braces _ = false

abbrev pub set_display : List Role → Option ToldForm
set_display back =
    told_if (is_braces (bracket back) && (not (has separators.Colon back) && is_first_whole back)) forms.Set (bracket_place back)

abbrev pub told_by_token : Role → List Role → List Role → Option ToldForm
told_by_token roles.Await back after = told_if (takes_operand (spot back)) forms.Await (length back)
told_by_token roles.Bytes back after = told_if (takes_operand (spot back)) forms.Bytes (length back)
told_by_token roles.Float back after = told_if (takes_operand (spot back)) forms.Float (length back)
told_by_token roles.Lambda back after = told_if (takes_expression (spot back)) forms.Lambda (length back)
told_by_token roles.Yield back after = told_if (takes_yield (spot back)) forms.Yield (length back)
told_by_token roles.Star back after = told_if (takes_star (spot back)) forms.Star (length back)
told_by_token roles.DoubleStar back after = told_if (takes_double_star (spot back)) forms.Star (length back)
told_by_token roles.For back after = comprehension back
told_by_token roles.Async back after = async_comprehension back after
told_by_token roles.ColonEqual back after = walrus back
told_by_token roles.LeftParen back after = call back
told_by_token roles.Colon back after = slice back
told_by_token roles.Comma back after = set_display back
told_by_token roles.RightBrace back after = set_display back
told_by_token _ back after = None

-- the name `super` as an operand; as the keyword of an argument, which a `=` follows, it is a name as any other
abbrev pub is_super : Role → Bool
is_super roles.Super = true
is_super _ = false

abbrev pub begins_with_equal : List Role → Bool
begins_with_equal (roles.Equal ∷ after) = true
begins_with_equal _ = false

abbrev pub is_super_operand : List Role → Role → List Role → Bool
is_super_operand back role after =
    is_super role && (takes_operand (spot back) && not (takes_keyword (spot back) && begins_with_equal after))

-- the run may end in a `super` which only the token behind it shows to be no keyword
abbrev pub super_before : List Role → List Role → Option ToldForm
super_before [] rest = None
super_before (role ∷ before) rest = told_if (is_super_operand before role rest) forms.Super (length before)

abbrev pub super_here : List Role → Role → List Role → Option ToldForm
super_here back role after = told_if (is_super_operand back role after) forms.Super (length back)

abbrev pub or_else : Option ToldForm → Option ToldForm → Option ToldForm
or_else (Some a) b = Some a
or_else None b = b

-- what is told behind a run by the token that follows it: `super` first
unfoldable pub told : List Role → List Role → Option ToldForm
told back [] = None
told back (role ∷ after) =
    or_else (super_before back (role ∷ after)) (or_else (super_here back role after) (told_by_token role back after))
