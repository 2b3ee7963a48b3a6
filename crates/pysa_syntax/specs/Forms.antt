-- The forms of Pysa's model files that are told by name and aren't read. Each is told by two tokens of one logical line.
use Rattle.std.specs.Prelude.{◌≡◌, ℕ, zero, suc, Bool, true, false, ◌&&◌, ◌<◌, List, [], ◌∷◌, drop, slice_get, Option, Some, None, codes, if◌then◌else◌}
use Rattle.std.specs.Str.{bytes_eq}
use Rattle.rv_names.specs.Keys.{Bytes}
use Rattle.py_lexer.specs.declared.token.Token.{Token}
use Rattle.py_lexer.specs.declared.form.Form.{Form}
use Rattle.py_lexer.specs.declared.form.Form.TheVariants as forms
use Rattle.phrases.specs.Sets.{has}
use Rattle.pysa_syntax.specs.declared.symbol.Symbol.{Symbol}
use Rattle.pysa_syntax.specs.declared.symbol.Symbol.TheVariants as symbols
use Rattle.pysa_syntax.specs.Symbols.{class, symbol, text_in, only}

-- before a "["
abbrev pub bracket_form : Bytes → Option Form
bracket_form text =
    if bytes_eq text (codes "AppliesTo") then Some forms.AppliesTo else (
    if bytes_eq text (codes "ParameterPath") then Some forms.ParameterPath else (
    if bytes_eq text (codes "ReturnPath") then Some forms.ReturnPath else (
    if bytes_eq text (codes "Via") then Some forms.Via else (
    if bytes_eq text (codes "Updates") then Some forms.Updates else (
    if bytes_eq text (codes "Transform") then Some forms.Transform else (
    if bytes_eq text (codes "PartialSink") then Some forms.PartialSink else
    None))))))

-- behind an "@"
abbrev pub decorator_form : Bytes → Option Form
decorator_form text =
    if bytes_eq text (codes "SkipAnalysis") then Some forms.SkipAnalysis else (
    if bytes_eq text (codes "SkipOverrides") then Some forms.SkipOverrides else (
    if bytes_eq text (codes "Sanitize") then Some forms.Sanitize else
    None))

-- where a logical line begins, and before a "("
abbrev pub query_form : Bool → Bytes → Option Form
query_form begins text = if begins && bytes_eq text (codes "ModelQuery") then Some forms.ModelQuery else None

-- of a name, by the symbol behind it
abbrev pub named_form : Bool → Bytes → Symbol → Option Form
named_form begins text symbols.LeftBracket = bracket_form text
named_form begins text symbols.LeftParen = query_form begins text
named_form begins text _ = None

-- of an "@", by the token behind it
abbrev pub at_form : Symbol → Bytes → Option Form
at_form symbols.Name text = decorator_form text
at_form _ text = None

-- of two tokens by their symbols and texts, where a logical line begins with the first or doesn't
abbrev pub form_by : Bool → Symbol → Bytes → Symbol → Bytes → Option Form
form_by begins symbols.Name text next other = named_form begins text next
form_by begins symbols.At text next other = at_form next other
form_by begins _ text next other = None

unfoldable pub form_of : Bool → Token → Token → Option Form
form_of begins t u = form_by begins (symbol t) (text_in t.value) (symbol u) (text_in u.value)

abbrev pub form_in_front : Bool → List Token → Option Form
form_in_front begins [] = None
form_in_front begins (t ∷ []) = None
form_in_front begins (t ∷ u ∷ ts) = form_of begins t u

abbrev pub is_newline : Option Token → Bool
is_newline None = false
is_newline (Some t) = has (only symbols.Newline) (class t)

-- a logical line begins with token i: it is the first, or a NEWLINE is before it
abbrev pub begins_line : List Token → ℕ → Bool
begins_line ts zero = true
begins_line ts (suc i) = is_newline (slice_get ts i)

-- the form whose first token is token i, if there is one
unfoldable pub form_at : List Token → ℕ → Option Form
form_at ts i = form_in_front (begins_line ts i) (drop i ts)

-- no form begins with one of the first n tokens
abbrev pub NoForm : List Token → ℕ → Type 0
NoForm ts n = (i : ℕ) → i < n → form_at ts i ≡ None
