-- What the grammar says of the tokens of a file: the module that they spell, or the place of the fault. A fault of syntax stands
-- at the last token of the shortest part from the front with which no spelled list begins, or at the last token of all where
-- each part begins one and the whole is none. One nesting too many is opened by the token that opens it.
use Rattle.std.specs.Prelude.{◌≡◌, ◌⊎◌, ℕ, List, [], ◌∷◌, ◌++◌, length, Option, Some, None, Result, Ok, Err, slice_get}
use Rattle.phrases.specs.Verdict.{Spelled, Viable, IsShallow, TooDeepAt}
use Rattle.phrases.specs.declared.fault.Stop.{Stop}
use Rattle.phrases.specs.declared.fault.Stop.TheVariants as stops
use Rattle.phrases.specs.declared.fault.Fault.TheVariants as faults
use Rattle.py_literals.specs.declared.place.Pos.{Pos}
use Rattle.py_lexer.specs.declared.token.Token.{Token}
use Rattle.py_lexer.specs.declared.form.Form.{Form}
use Rattle.py_forms.specs.declared.telling.ToldForm.{ToldForm}
use Rattle.later_forms.specs.Later.{told_on_line, told_before}
use Rattle.py_ast.specs.Files.{file, module_of}
use Rattle.py_ast.specs.declared.statement.Module.{Module}
use Rattle.py_ast.specs.declared.statement.Stmt.{Stmt}
use Rattle.py_expr.specs.Judged.{deepest}
use Rattle.py_parser.specs.declared.reading.GrammarError.{GrammarError}
use Rattle.py_parser.specs.declared.reading.GrammarError.TheVariants as errors

-- the tokens spell the module
abbrev pub IsModule : List Token → Module → Type 0
IsModule ts m = (lines : List (List Stmt)) × (file deepest).Spells ts lines × (m ≡ module_of lines)

-- no file begins with the run and the token behind it; where none is behind it the run is no file
abbrev pub Ends : List Token → List Token → Type 0
Ends run [] = (lines : List (List Stmt)) → Spelled file run lines → ⊥
Ends run (t ∷ ts) = Viable file (run ++ t ∷ []) → ⊥

-- the longest run with which a file begins is not the file, and rest is behind it
pub record SyntaxStop (ts rest : List Token) : Type 0 where
  pub run : List Token
  pub split : ts ≡ run ++ rest
  pub viable : Viable file run
  pub ends : Ends run rest
  pub shallow : IsShallow (file deepest) ts

-- the token stands last
abbrev pub EndsWith : List Token → Pos → Type 0
EndsWith ts place = (before : List Token) × (t : Token) × (ts ≡ before ++ t ∷ []) × (t.at ≡ place)

-- the place of the first token of rest, or of the last of all where none is left
abbrev pub StopPlace : List Token → List Token → Pos → Type 0
StopPlace ts [] place = EndsWith ts place
StopPlace ts (t ∷ rest) place = t.at ≡ place

-- a token stands at this index of the list, with this place
abbrev pub StandsAt : List Token → ℕ → Pos → Type 0
StandsAt ts i place = (t : Token) × (slice_get ts i ≡ Some t) × (t.at ≡ place)

-- no form that is left out is told where reading stops, nor one that begins before by what stands further on the line
abbrev pub IsSyntax : List Token → Pos → Type 0
IsSyntax ts place = (rest : List Token) × (s : SyntaxStop ts rest) × (told_on_line ts (length s.run) ≡ None) × StopPlace ts rest place

-- the form that is told begins at the place
abbrev pub Tells : List Token → Option ToldForm → Form → Pos → Type 0
Tells ts told form place = (found : ToldForm) × (told ≡ Some found) × (found.form ≡ form) × StandsAt ts found.place place

-- one is told where reading stops or further on the line, or one that begins before a token that opens a nesting too many, by what stands
-- behind it on the line
abbrev pub IsUnsupported : List Token → Form → Pos → Type 0
IsUnsupported ts form place =
    ((rest : List Token) × (s : SyntaxStop ts rest) × Tells ts (told_on_line ts (length s.run)) form place)
    ⊎ ((rest : List Token) × (d : TooDeepAt file deepest ts rest) × Tells ts (told_before ts (length d.run)) form place)

abbrev pub IsTooDeep : List Token → Pos → Type 0
IsTooDeep ts place = (rest : List Token) × (d : TooDeepAt file deepest ts rest) × (told_before ts (length d.run) ≡ None) × StopPlace ts rest place

abbrev pub Stopped : List Token → Stop Token → Type 0
Stopped ts stops.Memory = Unit {0}
Stopped ts (stops.Fault faults.Syntax rest) = SyntaxStop ts rest.now
Stopped ts (stops.Fault faults.TooDeep rest) = TooDeepAt file deepest ts rest.now

abbrev pub ReadsTo : List Token → Result Module (Stop Token) → Type 0
ReadsTo ts (Ok m) = IsModule ts m
ReadsTo ts (Err stop) = Stopped ts stop

abbrev pub Refused : List Token → GrammarError → Type 0
Refused ts (errors.Syntax place) = IsSyntax ts place
Refused ts (errors.Unsupported form place) = IsUnsupported ts form place
Refused ts (errors.TooDeep place) = IsTooDeep ts place
Refused ts errors.Memory = Unit {0}

abbrev pub Judged : List Token → Result Module GrammarError → Type 0
Judged ts (Ok m) = IsModule ts m
Judged ts (Err e) = Refused ts e
