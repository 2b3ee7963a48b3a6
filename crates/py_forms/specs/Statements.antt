-- The form that a token tells behind a run with which a file of the subset begins, and the place of the form's first token in the
-- run and what follows it. A form is told where the full grammar of the Language Reference (10) goes on with the token, and the
-- subset doesn't. What stands in an expression is told as specs/Forms.antt says, and here what stands round it.
use Rattle.std.specs.Prelude.{ℕ, Bool, true, false, codes, ◌-◌, ◌==◌, ◌&&◌, ◌||◌, not, List, [], ◌∷◌, length, take, Option, Some, None, if◌then◌else◌}
use Rattle.std.specs.Str.{bytes_eq}
use Rattle.py_lexer.specs.declared.form.Form.{Form}
use Rattle.py_lexer.specs.declared.form.Form.TheVariants as forms
use Rattle.py_lexer.specs.declared.token.Kind.{Kind}
use Rattle.py_lexer.specs.declared.token.Kind.TheVariants as kinds
use Rattle.py_lexer.specs.declared.token.Value.{Value}
use Rattle.py_lexer.specs.declared.token.Value.TheVariants as values
use Rattle.py_lexer.specs.declared.token.Token.{Token}
use Rattle.py_forms.specs.declared.part.Parting.TheVariants as partings
use Rattle.py_forms.specs.declared.block.Block.{Block}
use Rattle.py_forms.specs.declared.block.Block.TheVariants as blocks
use Rattle.py_forms.specs.declared.telling.ToldForm.{ToldForm}
use Rattle.py_forms.specs.Roles.{roles_of, back_of}
use Rattle.py_forms.specs.declared.level.Bracket.{Bracket}
use Rattle.py_forms.specs.declared.level.Bracket.TheVariants as brackets
use Rattle.py_forms.specs.Levels.{is_behind_operand, bracket}
use Rattle.py_forms.specs.Primaries.{before_primary}
use Rattle.py_forms.specs.Spots.{spot, takes_operand}
use Rattle.py_forms.specs.Forms.{told_if, or_else, told}
use Rattle.py_forms.specs.Classes.{begins_operand, begins_expression, goes_on_operand}
use Rattle.py_forms.specs.Parts.{is_augmented, behind_first, last_part, line, statement, kinds_back, first_word, owner, first_kind, block}

-- ---- classes of tokens

abbrev pub told_form : Option Form → ℕ → Option ToldForm
told_form None place = None
told_form (Some form) place = Some (record { form = form; place = place })

abbrev pub form_if : Bool → Form → Option Form
form_if b form = if b then Some form else None

-- the kind of the last token
abbrev pub last_of : List Kind → Option Kind
last_of [] = None
last_of (k ∷ back) = Some k

abbrev pub last_kind : List Token → Option Kind
last_kind tokens = last_of (kinds_back tokens)

-- ---- expressions

-- a form in the expression e that a run of at tokens ends in
abbrev pub moved : ℕ → ℕ → Option ToldForm → Option ToldForm
moved at count None = None
moved at count (Some f) = Some (record { form = f.form; place = at - (count - f.place) })

abbrev pub inside : ℕ → List Token → List Token → Option ToldForm
inside at e rest = moved at (length e) (told (back_of e) (roles_of rest))

-- ---- the beginning of a statement

-- behind the ":" of a header at the end of a line only an INDENT goes on
abbrev pub awaits_indent : List Kind → Bool
awaits_indent (kinds.Newline ∷ kinds.Colon ∷ back) = true
awaits_indent _ = false

-- behind a decorator only a definition or another one goes on
abbrev pub is_at : Kind → Bool
is_at kinds.At = true
is_at _ = false

abbrev pub is_decorated : List Kind → Bool
is_decorated (kinds.Newline ∷ back) = is_at (first_word kinds.Newline back)
is_decorated _ = false

abbrev pub is_loop : Kind → Bool
is_loop kinds.While = true
is_loop kinds.For = true
is_loop _ = false

abbrev pub is_loop_of : Option Kind → Bool
is_loop_of None = false
is_loop_of (Some kind) = is_loop kind

-- a loop ends here: its block was indented, or stands on its line
abbrev pub is_behind_loop : List Kind → Bool
is_behind_loop (kinds.Dedent ∷ back) = is_loop_of (owner 0 back)
is_behind_loop (kinds.Newline ∷ kinds.Colon ∷ back) = false
is_behind_loop (kinds.Newline ∷ back) = is_loop (first_word kinds.Newline back)
is_behind_loop _ = false

abbrev pub is_file : Block → Bool
is_file blocks.File = true
is_file _ = false

abbrev pub is_class : Block → Bool
is_class blocks.Class = true
is_class _ = false

abbrev pub is_other : Block → Bool
is_other blocks.Other = true
is_other _ = false

-- what begins a statement with a block does so only on a line of its own; of a class, what begins none of its statements
unfoldable pub begins_form : (fresh : Bool) → Block → Kind → Option Form
begins_form fresh b kinds.With = form_if fresh forms.With
begins_form fresh b kinds.Try = form_if fresh forms.Try
begins_form fresh b kinds.Raise = Some forms.Raise
begins_form fresh b kinds.Global = Some forms.Global
begins_form fresh b kinds.Nonlocal = Some forms.Nonlocal
begins_form fresh b kinds.Del = Some forms.Del
begins_form fresh b kinds.Yield = Some forms.Yield
begins_form fresh b kinds.Star = Some forms.Star
begins_form fresh b kinds.Def = form_if (fresh && is_other b) forms.InnerDef
begins_form fresh b kinds.Import = form_if (not (is_file b)) forms.InnerImport
begins_form fresh b kinds.From = form_if (not (is_file b)) forms.InnerImport
begins_form fresh b kinds.If = form_if (fresh && is_class b) forms.ClassStatement
begins_form fresh b kinds.While = form_if (fresh && is_class b) forms.ClassStatement
begins_form fresh b kinds.For = form_if (fresh && is_class b) forms.ClassStatement
begins_form fresh b kinds.Assert = form_if (is_class b) forms.ClassStatement
begins_form fresh b kind = form_if (is_class b && begins_operand kind) forms.ClassStatement

-- and what may also stand behind a decorator
abbrev pub begins_any : (fresh decorated : Bool) → Block → Kind → Option Form
begins_any fresh decorated b kinds.Async = form_if fresh forms.Async
begins_any fresh decorated b kinds.Class = form_if (fresh && not (is_file b)) forms.InnerClass
begins_any fresh decorated b kind = if decorated then None else begins_form fresh b kind

abbrev pub is_else : Kind → Bool
is_else kinds.Else = true
is_else _ = false

abbrev pub fresh : List Token → Bool
fresh run = length (line run) == 0

abbrev pub beginning : List Token → Kind → List Token → Option ToldForm
beginning run kind rest =
    if fresh run && awaits_indent (kinds_back run) then None else (
    if fresh run && is_decorated (kinds_back run) then told_form (begins_any true true (block run) kind) (length run) else (
    if fresh run && (is_else kind && is_behind_loop (kinds_back run)) then Some (record { form = forms.LoopElse; place = length run }) else
    or_else (inside (length run) [] rest) (told_form (begins_any (fresh run) false (block run) kind) (length run))))

-- ---- stars and names

-- a star where the first token of an expression may stand
abbrev pub is_star : Kind → Bool
is_star kinds.Star = true
is_star _ = false

abbrev pub starred : ℕ → List Token → Kind → Option ToldForm
starred at e kind = told_if (length e == 0 && is_star kind) forms.Star at

-- `:=` behind a name that is a condition so far
abbrev pub is_walrus : Kind → Bool
is_walrus kinds.ColonEqual = true
is_walrus _ = false

abbrev pub is_name : Kind → Bool
is_name kinds.Name = true
is_name _ = false

abbrev pub begins_name : Option Kind → Bool
begins_name (Some kinds.Name) = true
begins_name _ = false

abbrev pub is_named : List Token → Kind → Bool
is_named e kind = is_walrus kind && ((length e == 1) && begins_name (first_kind e))

abbrev pub condition : ℕ → List Token → Kind → List Token → Option ToldForm
condition at e kind rest = or_else (inside at e rest) (told_if (is_named e kind) forms.Walrus (at - 1))

-- ---- headers and imports

-- what is gone over, and before it the names
abbrev pub before_name : Option Kind → Bool
before_name (Some kinds.For) = true
before_name (Some kinds.Comma) = true
before_name (Some kinds.LeftParen) = true
before_name _ = false

abbrev pub items : ℕ → List Token → Kind → List Token → Option ToldForm
items at e kind rest = or_else (inside at (last_part partings.Expressions e) rest) (starred at (last_part partings.Expressions e) kind)

abbrev pub loop_by : Option (List Token) → ℕ → List Token → Kind → List Token → Option ToldForm
loop_by None at s kind rest = told_if (before_name (last_kind s) && is_star kind) forms.Star at
loop_by (Some e) at s kind rest = items at e kind rest

-- parameters; a star before no name is none of the full grammar's parameters with one
abbrev pub first_is_name : List Token → Bool
first_is_name (t ∷ u ∷ ts) = is_name u.kind
first_is_name _ = false

abbrev pub before_parameter : Option Kind → Bool
before_parameter (Some kinds.Comma) = true
before_parameter (Some kinds.LeftParen) = true
before_parameter _ = false

abbrev pub star_parameter : Kind → List Token → Bool
star_parameter kinds.Star rest = first_is_name rest
star_parameter kinds.DoubleStar rest = true
star_parameter _ rest = false

-- behind the parameters what is returned may be annotated
abbrev pub separator_of : List Token → List Token → Option Kind
separator_of s e = last_kind (take (length s - length e) s)

abbrev pub before_value : Option Kind → Bool
before_value (Some kinds.Colon) = true
before_value (Some kinds.Equal) = true
before_value (Some kinds.Arrow) = true
before_value _ = false

abbrev pub signature_part : ℕ → List Token → List Token → Kind → List Token → Option ToldForm
signature_part at s e kind rest =
    if before_value (separator_of s e) then inside at e rest else
    told_if (length e == 0 && (before_parameter (separator_of s e) && star_parameter kind rest)) forms.Star at

-- the parentheses are open, or close at the end of the run, or an annotation follows
abbrev pub is_closing : Option (List Token) → Bool
is_closing (Some []) = true
is_closing _ = false

abbrev pub signature : ℕ → List Token → List Token → Kind → List Token → Option ToldForm
signature at s ps kind rest = if is_closing (behind_first partings.Parameters 0 ps) then None else signature_part at s (last_part partings.Signature ps) kind rest

abbrev pub function_header : ℕ → List Token → Kind → List Token → Option ToldForm
function_header at (d ∷ n ∷ p ∷ ps) kind rest = signature at (d ∷ n ∷ p ∷ ps) ps kind rest
function_header at _ kind rest = None

-- a second base behind the first, and a keyword; what else stands in a class's parentheses is told as in a call, but no generator
-- expression stands there
abbrev pub is_equal : Kind → Bool
is_equal kinds.Equal = true
is_equal _ = false

abbrev pub is_positional : List Token → Bool
is_positional [] = false
is_positional (t ∷ []) = begins_expression t.kind
is_positional (t ∷ u ∷ ts) = begins_expression t.kind && not (is_equal u.kind)

abbrev pub is_right_paren : Option Kind → Bool
is_right_paren (Some kinds.RightParen) = true
is_right_paren _ = false

abbrev pub tail_of : List Token → List Token
tail_of [] = []
tail_of (t ∷ ts) = ts

abbrev pub ends_name : Option Kind → Bool
ends_name (Some kinds.Name) = true
ends_name _ = false

abbrev pub base_part : ℕ → List Token → List Token → Kind → List Token → Option ToldForm
base_part at e bs kinds.For rest = None
base_part at e bs kinds.Async rest = None
base_part at e bs kinds.Comma rest = told_if (ends_name (last_kind bs) && is_positional (tail_of rest)) forms.Bases (at - length bs)
base_part at e bs kinds.Equal rest = told_if (length bs == 1) forms.ClassKeyword (at - 1)
base_part at e bs kind rest = inside at e rest

abbrev pub open_bases : ℕ → List Token → List Token → Kind → List Token → Option ToldForm
open_bases at e bs kind rest = if is_right_paren (last_kind bs) then None else base_part at e bs kind rest

abbrev pub class_header : ℕ → List Token → Kind → List Token → Option ToldForm
class_header at (c ∷ n ∷ p ∷ bs) kind rest = open_bases at (n ∷ p ∷ bs) bs kind rest
class_header at _ kind rest = None

abbrev pub is_import : Option Kind → Bool
is_import (Some kinds.Import) = true
is_import _ = false

abbrev pub from_import : ℕ → List Token → Kind → Option ToldForm
from_import at s kinds.Dot = told_if (length s == 1) forms.RelativeImport (at - length s)
from_import at s kinds.Ellipsis = told_if (length s == 1) forms.RelativeImport (at - length s)
from_import at s kinds.Star = told_if (is_import (last_kind s)) forms.StarImport (at - length s)
from_import at s _ = None

-- ---- decorators

abbrev pub method_by : List ℕ → Option Form
method_by name =
    if bytes_eq name (codes "staticmethod") then Some forms.StaticMethod else (
    if bytes_eq name (codes "classmethod") then Some forms.ClassMethod else (
    if bytes_eq name (codes "property") then Some forms.Property else None))

abbrev pub method_of : Value → Option Form
method_of (values.Name name) = method_by name
method_of _ = None

-- one of the three names alone, called or not
abbrev pub method : List Token → Kind → Option Form
method (t ∷ []) kinds.Newline = method_of t.value
method (t ∷ []) kinds.LeftParen = method_of t.value
method _ _ = None

-- another expression than the subset's: a form in it, or a token that begins an operand or goes on with one
abbrev pub is_some : Option ToldForm → Bool
is_some None = false
is_some (Some f) = true

-- an argument that is a name ends: the subset's has a "=" behind it
abbrev pub is_call : Bracket → Bool
is_call brackets.Call = true
is_call _ = false

abbrev pub ends_argument : Option Kind → Kind → Bool
ends_argument (Some kinds.Name) kinds.RightParen = true
ends_argument (Some kinds.Name) kinds.Comma = true
ends_argument (Some kinds.Text) kinds.FStringStart = true
ends_argument _ _ = false

abbrev pub goes_on : List Token → Kind → Bool
goes_on e kind =
    if is_behind_operand (back_of e)
    then goes_on_operand kind || (is_named e kind || (is_call (bracket (back_of e)) && ends_argument (last_kind e) kind))
    else takes_operand (spot (back_of e)) && begins_expression kind

abbrev pub decorator_form : List Token → Kind → List Token → Option Form
decorator_form e kind rest = form_if (is_some (told (back_of e) (roles_of rest)) || goes_on e kind) forms.Decorator

abbrev pub either_form : Option Form → Option Form → Option Form
either_form (Some a) b = Some a
either_form None b = b

abbrev pub decorator : ℕ → List Token → Kind → List Token → Option ToldForm
decorator at e kind rest = told_form (either_form (method e kind) (decorator_form e kind rest)) (at - length e - 1)

-- ---- simple statements

abbrev pub before_yield : Option Kind → Bool
before_yield (Some kinds.Equal) = true
before_yield (Some kind) = is_augmented kind
before_yield None = false

abbrev pub is_yield : Kind → Bool
is_yield kinds.Yield = true
is_yield _ = false

abbrev pub before_star : Option Kind → Bool
before_star (Some kinds.Comma) = true
before_star separator = before_yield separator

-- names, or a name, an attribute or a subscript
abbrev pub is_name_or_comma : Kind → Bool
is_name_or_comma kinds.Name = true
is_name_or_comma kinds.Comma = true
is_name_or_comma _ = false

unfoldable pub are_names : List Token → Bool
are_names [] = true
are_names (t ∷ ts) = is_name_or_comma t.kind && are_names ts

abbrev pub ends_place : Option Kind → Bool
ends_place (Some kinds.Name) = true
ends_place (Some kinds.RightBracket) = true
ends_place _ = false

abbrev pub begins_list : Option Kind → Bool
begins_list (Some kinds.LeftBracket) = true
begins_list _ = false

abbrev pub is_primary : List Token → Bool
is_primary v = length (before_primary 0 (back_of v)) == 0

abbrev pub is_place : List Token → Bool
is_place v = not (length v == 0) && (are_names v || (is_primary v && (ends_place (last_kind v) && not (begins_list (first_kind v)))))

-- the second "=" behind a target
abbrev pub is_target : Option (List Token) → Option (List Token) → Bool
is_target (Some v) None = is_place v
is_target _ _ = false

abbrev pub chained : ℕ → List Token → Kind → Option ToldForm
chained at s kind = told_if (is_equal kind && is_target (behind_first partings.Targets 0 s) (behind_first partings.Others 0 s)) forms.ChainedAssignment at

-- of a class: a name, "..." or strings, with which another expression begins than the subset's
abbrev pub ends_statement : Kind → Bool
ends_statement kinds.Newline = true
ends_statement kinds.Semicolon = true
ends_statement _ = false

abbrev pub goes_on_name : Kind → Bool
goes_on_name kinds.Comma = true
goes_on_name kind = goes_on_operand kind || (is_augmented kind || ends_statement kind)

abbrev pub goes_on_constant : Kind → Bool
goes_on_constant kinds.Comma = true
goes_on_constant kind = goes_on_operand kind

abbrev pub is_text : Kind → Bool
is_text kinds.Text = true
is_text _ = false

unfoldable pub are_texts : List Token → Bool
are_texts [] = true
are_texts (t ∷ ts) = is_text t.kind && are_texts ts

abbrev pub goes_on_texts : Kind → Bool
goes_on_texts kinds.FStringStart = true
goes_on_texts kind = goes_on_constant kind

abbrev pub goes_on_by : Kind → Kind → Bool
goes_on_by kinds.Name kind = goes_on_name kind
goes_on_by kinds.Ellipsis kind = goes_on_constant kind
goes_on_by kinds.Text kind = goes_on_texts kind
goes_on_by _ kind = false

abbrev pub goes_on_member : List Token → Kind → Bool
goes_on_member [] kind = false
goes_on_member (t ∷ []) kind = goes_on_by t.kind kind
goes_on_member (t ∷ u ∷ ts) kind = are_texts (t ∷ u ∷ ts) && goes_on_texts kind

abbrev pub member : ℕ → Block → List Token → Kind → Option ToldForm
member at b s kind = told_if (is_class b && goes_on_member s kind) forms.ClassStatement (at - length s)

abbrev pub expression_part : ℕ → Block → List Token → List Token → Kind → List Token → Option ToldForm
expression_part at b s e kind rest =
    or_else (inside at e rest)
    (or_else (told_if (length e == 0 && (is_yield kind && before_yield (separator_of s e))) forms.Yield at)
    (or_else (told_if (length e == 0 && (is_star kind && before_star (separator_of s e))) forms.Star at)
    (or_else (chained at s kind) (member at b s kind))))

-- ---- `match`

abbrev pub is_match_name : Value → Bool
is_match_name (values.Name name) = bytes_eq name (codes "match")
is_match_name _ = false

-- the line goes on up to a ":" before its end
unfoldable pub ends_in_colon : Bool → List Token → Bool
ends_in_colon colon [] = false
ends_in_colon colon (t ∷ ts) = elim t.kind as (λ k. Bool) [ kinds.Newline ↦ colon | kinds.Colon ↦ ends_in_colon true ts | _ ↦ ends_in_colon false ts ]

abbrev pub begins_subject : Option Kind → Bool
begins_subject None = false
begins_subject (Some kinds.Star) = true
begins_subject (Some kind) = begins_expression kind

abbrev pub subject : List Token → List Token → Option Kind
subject [] rest = first_kind rest
subject (t ∷ ts) rest = Some t.kind

abbrev pub match_line : List Token → List Token → Bool
match_line [] rest = false
match_line (t ∷ ts) rest = is_match_name t.value && (begins_subject (subject ts rest) && ends_in_colon false rest)

-- ---- the whole

abbrev pub by_first : ℕ → Block → List Token → Kind → Kind → List Token → Option ToldForm
by_first at b s kinds.If kind rest = condition at (tail_of s) kind rest
by_first at b s kinds.Elif kind rest = condition at (tail_of s) kind rest
by_first at b s kinds.While kind rest = condition at (tail_of s) kind rest
by_first at b s kinds.Else kind rest = None
by_first at b s kinds.Pass kind rest = None
by_first at b s kinds.Break kind rest = None
by_first at b s kinds.Continue kind rest = None
by_first at b s kinds.Import kind rest = None
by_first at b s kinds.From kind rest = from_import at s kind
by_first at b s kinds.For kind rest = loop_by (behind_first partings.Loop 0 s) at s kind rest
by_first at b s kinds.Def kind rest = function_header at s kind rest
by_first at b s kinds.Class kind rest = class_header at s kind rest
by_first at b s kinds.At kind rest = decorator at (tail_of s) kind rest
by_first at b s kinds.Return kind rest = items at (tail_of s) kind rest
by_first at b s kinds.Assert kind rest = inside at (last_part partings.Expressions (tail_of s)) rest
by_first at b s _ kind rest = expression_part at b s (last_part partings.Sides s) kind rest

abbrev pub in_statement : List Token → List Token → Kind → List Token → Option ToldForm
in_statement run [] kind rest = beginning run kind rest
in_statement run (t ∷ ts) kind rest =
    if (length (t ∷ ts) == length (line run)) && match_line (t ∷ ts) rest then Some (record { form = forms.Match; place = length run - length (t ∷ ts) }) else
    by_first (length run) (block run) (t ∷ ts) t.kind kind rest

-- what is told behind a run by the tokens that follow it
unfoldable pub told_in_file : List Token → List Token → Option ToldForm
told_in_file run [] = None
told_in_file run (t ∷ rest) = in_statement run (statement run) t.kind (t ∷ rest)
