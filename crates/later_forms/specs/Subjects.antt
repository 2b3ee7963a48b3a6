-- What the token tells at which reading stops. A line is that of a `match` only where a subject stands in it (Language Reference,
-- 8.6).
use Rattle.std.specs.Prelude.{ℕ, Bool, true, false, ◌+◌, ◌&&◌, not, List, [], ◌∷◌, take, drop, Option, Some, None, if◌then◌else◌}
use Rattle.py_lexer.specs.declared.form.Form.{Form}
use Rattle.py_lexer.specs.declared.form.Form.TheVariants as forms
use Rattle.py_lexer.specs.declared.token.Kind.{Kind}
use Rattle.py_lexer.specs.declared.token.Kind.TheVariants as kinds
use Rattle.py_lexer.specs.declared.token.Token.{Token}
use Rattle.py_forms.specs.declared.telling.ToldForm.{ToldForm}
use Rattle.py_forms.specs.Statements.{told_in_file}
use Rattle.later_forms.specs.declared.level.Bracket.TheVariants as brackets
use Rattle.later_forms.specs.declared.level.Level.{Level}
use Rattle.later_forms.specs.declared.nesting.Nesting.{Nesting}
use Rattle.later_forms.specs.Levels.{ends_subject}
use Rattle.later_forms.specs.Nesting.{alone, advanced}

-- the layout round a logical line (2.1)
unfoldable pub ends_line : Kind → Bool
ends_line kinds.Newline = true
ends_line kinds.Indent = true
ends_line kinds.Dedent = true
ends_line _ = false

-- how many tokens stand before the colon that ends a line
abbrev pub is_colon : Kind → Bool
is_colon kinds.Colon = true
is_colon _ = false

abbrev pub is_line_end : List Token → Bool
is_line_end [] = false
is_line_end (t ∷ ts) = ends_line t.kind

unfoldable pub header_len : List Token → ℕ
header_len [] = 0
header_len (t ∷ ts) = if is_colon t.kind && is_line_end ts then 0 else header_len ts + 1

abbrev pub header : List Token → List Token
header tokens = take (header_len tokens) tokens

-- the levels behind the tokens, the first of which has this index; none where the full grammar doesn't go on with one of them
unfoldable pub gone_over : ℕ → Option Nesting → List Token → Option Nesting
gone_over at None tokens = None
gone_over at (Some n) [] = Some n
gone_over at (Some n) (t ∷ ts) = gone_over (at + 1) (advanced true at t n) ts

-- the tokens are a subject, and all that they open they close
abbrev pub only_here : List Level → Bool → Bool
only_here [] b = b
only_here (l ∷ ls) b = false

abbrev pub ends_here : Option Nesting → Bool
ends_here None = false
ends_here (Some n) = only_here n.round (ends_subject n.innermost)

abbrev pub is_subject : List Token → Bool
is_subject tokens = ends_here (gone_over 0 (Some (alone 0 brackets.Subject)) tokens)

abbrev pub is_match : Form → Bool
is_match forms.Match = true
is_match _ = false

-- without a subject between the name and the colon, the line is told as if it didn't end in the colon
abbrev pub mended : List Token → ℕ → ToldForm → Option ToldForm
mended tokens count told =
    if is_match told.form && not (is_subject (header (drop (told.place + 1) tokens)))
    then told_in_file (take count tokens) (header (drop count tokens)) else Some told

abbrev pub told_of : List Token → ℕ → Option ToldForm → Option ToldForm
told_of tokens count None = None
told_of tokens count (Some told) = mended tokens count told

-- what the token with the index count tells behind the run before it
unfoldable pub told_here : List Token → ℕ → Option ToldForm
told_here tokens count = told_of tokens count (told_in_file (take count tokens) (drop count tokens))
