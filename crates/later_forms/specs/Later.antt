-- The form that a token from the stop on tells on its logical line, and begins before a place. Reading stops at the token with the
-- index count. A form is told where the full grammar of the Language Reference (10) goes on with the token, and the subset doesn't.
use Rattle.std.specs.Prelude.{ℕ, Bool, true, false, ◌+◌, nat_le, nat_lt, List, [], ◌∷◌, length, take, drop, Option, Some, None, if◌then◌else◌}
use Rattle.py_lexer.specs.declared.form.Form.TheVariants as forms
use Rattle.py_lexer.specs.declared.token.Kind.{Kind}
use Rattle.py_lexer.specs.declared.token.Kind.TheVariants as kinds
use Rattle.py_lexer.specs.declared.token.Token.{Token}
use Rattle.py_forms.specs.declared.telling.ToldForm.{ToldForm}
use Rattle.py_forms.specs.Forms.{told_if, or_else}
use Rattle.py_forms.specs.Parts.{kinds_back}
use Rattle.later_forms.specs.declared.level.Bracket.{Bracket}
use Rattle.later_forms.specs.declared.level.Bracket.TheVariants as brackets
use Rattle.later_forms.specs.declared.level.Callee.{Callee}
use Rattle.later_forms.specs.declared.level.Callee.TheVariants as callees
use Rattle.later_forms.specs.declared.level.Primary.{Primary}
use Rattle.later_forms.specs.declared.level.Level.{Level}
use Rattle.later_forms.specs.declared.nearest.Nearest.{Nearest}
use Rattle.later_forms.specs.declared.nesting.Nesting.{Nesting}
use Rattle.later_forms.specs.Spots.{is_behind}
use Rattle.later_forms.specs.Levels.{begins_clause, is_set}
use Rattle.later_forms.specs.Nesting.{outside, advanced}
use Rattle.later_forms.specs.Subjects.{ends_line, told_here}

-- ---- what a token tells

-- a call whose callee the subset leaves out (6.3.4), at the callee's first token
abbrev pub called : Primary → Callee → Option ToldForm
called primary callees.Named = None
called primary callees.Init = Some (record { form = forms.InitCall; place = primary.begin })
called primary callees.Unnamed = Some (record { form = forms.Callee; place = primary.begin })

-- outside of brackets in a header there is no expression, and so no call
abbrev pub call_in : Bracket → Level → Option ToldForm
call_in brackets.Heading l = None
call_in _ l = if is_behind l.spot then called l.primary l.primary.callee else None

-- a comprehension (6.2.4) by its `for`; a set (6.2.6) by what ends its first item; a call by its parenthesis
unfoldable pub told_by : Level → Kind → Option ToldForm
told_by l kinds.For = told_if (begins_clause l) forms.Comprehension l.opening
told_by l kinds.Comma = told_if (is_set l) forms.Set l.opening
told_by l kinds.RightBrace = told_if (is_set l) forms.Set l.opening
told_by l kinds.LeftParen = call_in l.bracket l
told_by l _ = None

abbrev pub told_from : (stopped : Bool) → Level → Kind → Option ToldForm
told_from false l kind = None
told_from true l kind = told_by l kind

-- ---- the line

-- the index at which the line begins that a run ends in, by its kinds, the last one first
unfoldable pub line_begin : List Kind → ℕ
line_begin [] = 0
line_begin (kind ∷ back) = if ends_line kind then length (kind ∷ back) else line_begin back

abbrev pub listed : Option ToldForm → List ToldForm → List ToldForm
listed None further = further
listed (Some form) further = form ∷ further

-- the forms that the rest of the line tells, in the order of the tokens that tell; the first of them has the index at
unfoldable pub told_along : (count at : ℕ) → Option Nesting → List Token → List ToldForm
told_along count at None tokens = []
told_along count at (Some n) [] = []
told_along count at (Some n) (t ∷ ts) =
    if ends_line t.kind then [] else
    listed (told_from (nat_le count at) n.innermost t.kind) (told_along count (at + 1) (advanced (nat_le count at) at t n) ts)

-- ---- the least place

-- of the forms that begin before the limit the one with the least place; the first of several at one place
unfoldable pub least : (limit : ℕ) → List ToldForm → Option ToldForm
least limit [] = None
least limit (form ∷ further) =
    if nat_lt form.place limit then or_else (least form.place further) (Some form) else least limit further

-- where a form was seen that begins at the limit, or none, and further ones follow
unfoldable pub nearest : Nearest → List ToldForm → Option ToldForm
nearest seen further = or_else (least seen.limit further) seen.form

-- what the stop's line tells from the stop on, and begins before the limit
abbrev pub later_from : (begin : ℕ) → List Token → (count limit : ℕ) → Option ToldForm
later_from begin tokens count limit = least limit (told_along count begin (Some (outside begin)) (drop begin tokens))

abbrev pub later : List Token → (count limit : ℕ) → Option ToldForm
later tokens count limit = later_from (line_begin (kinds_back (take count tokens))) tokens count limit

-- ---- the whole

-- what begins before the stop, where reading stops because of nesting
unfoldable pub told_before : List Token → ℕ → Option ToldForm
told_before tokens count = later tokens count count

-- what the token at the stop tells, or what begins before that and is told later on the line
abbrev pub earlier : List Token → ℕ → Option ToldForm → Option ToldForm
earlier tokens count None = None
earlier tokens count (Some form) = or_else (later tokens count form.place) (Some form)

unfoldable pub told_on_line : List Token → ℕ → Option ToldForm
told_on_line tokens count = earlier tokens count (told_here tokens count)
