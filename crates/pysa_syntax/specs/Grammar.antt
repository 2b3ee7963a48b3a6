-- The grammar of model files, a profile of Pysa's (Pysa's documentation, "Overview: model files"), one definition a production:
--   file:   model*
--   model:  ["@" "SkipObscure" NEWLINE] "def" qname "(" params ")" ["->" marks] ":" "..." NEWLINE
--         | qname ":" marks "=" "..." NEWLINE
--   params: [param ("," param)* [","]]
--   param:  NAME [":" marks] ["=" "..."] | "*" | "/" | "*" NAME [":" marks] | "**" NAME [":" marks]
--   qname:  NAME ("." NAME)*          kinds: NAME ("," NAME)*
--   marks:  one | "Union" "[" one ("," one)+ "]"
--   one:    ("TaintSource" | "TaintSink") "[" kinds "]" | "TaintInTaintOut"
-- NAME is an identifier of any text; the words in quotes are told by their texts.
use Rattle.std.specs.Prelude.{ℕ, Bool, true, false, cond, List, [], ◌∷◌, ◌++◌, map, Option, Some, None}
use Rattle.rv_names.specs.Keys.{Bytes, Parts}
use Rattle.py_literals.specs.declared.place.Pos.{Pos}
use Rattle.py_lexer.specs.declared.token.Token.{Token}
use Rattle.phrases.specs.Sets.{has}
use Rattle.phrases.specs.Phrases.{Phrase, token, nothing, sequence, either, many}
use Rattle.phrases.specs.Series.{series}
use Rattle.pysa_syntax.specs.declared.symbol.Symbol.{Symbol}
use Rattle.pysa_syntax.specs.declared.symbol.Symbol.TheVariants as symbols
use Rattle.pysa_syntax.specs.declared.decl.Decl.{Decl}
use Rattle.pysa_syntax.specs.declared.decl.DeclParam.{DeclParam}
use Rattle.pysa_syntax.specs.declared.decl.DeclMark.{DeclMark}
use Rattle.pysa_syntax.specs.declared.decl.DeclMark.TheVariants.{Source, Sink, Through}
use Rattle.pysa_syntax.specs.declared.decl.ParamKind.{ParamKind}
use Rattle.pysa_syntax.specs.declared.decl.ParamKind.TheVariants.{Plain, Star, Slash, Rest, Keywords}
use Rattle.pysa_syntax.specs.Symbols.{class, symbol, text_in, only, names, sides, param_first, model_first}

-- ---- tokens

-- what is seen of a token, if its symbol is one of these
abbrev pub one_of : {A : Type 0} → List ℕ → (Token → A) → Token → Option A
one_of codes view t = cond (has codes (class t)) (Some (view t)) None

-- a symbol, and its place
unfoldable pub sign : Symbol → Phrase Token Pos
sign s = token (one_of (only s) (λ t. t.at))

-- a name and its place
abbrev pub Word : Type 0
Word = Bytes × Pos

unfoldable pub identifier : Phrase Token Word
identifier = token (one_of names (λ t. (text_in t.value, t.at)))

-- ---- ways to put phrases together

-- s and then g
unfoldable pub before : {A : Type 0} → Symbol → Phrase Token A → Phrase Token A
before s g = sequence (sign s) (λ p. g) (λ p a. a)

-- g and then s
unfoldable pub behind : {A : Type 0} → Phrase Token A → Symbol → Phrase Token A
behind g s = sequence g (λ a. sign s) (λ a p. a)

-- g, with another value
unfoldable pub seen : {A B : Type 0} → Phrase Token A → (A → B) → Phrase Token B
seen {B = B} g f = sequence g (λ a. nothing a) (λ a b. f b)

-- [s g]
unfoldable pub optional : {A : Type 0} → Symbol → Phrase Token (List A) → Phrase Token (List A)
optional s g = either class (only s) (before s g) (nothing [])

-- [g], where g begins with s: whether it is there
unfoldable pub given : Symbol → Phrase Token Pos → Phrase Token Bool
given s g = either class (only s) (seen g (λ p. true)) (nothing false)

-- NAME (s NAME)*
unfoldable pub names_by : Symbol → Phrase Token (List Word)
names_by s = sequence identifier (λ n. many class (only s) (before s identifier)) (λ n ns. n ∷ ns)

-- ---- names and marks

-- the names of a qualified name, or its texts
abbrev pub texts : List Word → Parts
texts ws = map (λ w. w.0) ws

unfoldable pub qname : Phrase Token Parts
qname = seen (names_by symbols.Dot) texts

-- a side's mark of a kind
abbrev pub mark_by : Symbol → Word → DeclMark
mark_by symbols.TaintSink kind = Sink kind.0 kind.1
mark_by _ kind = Source kind.0 kind.1

abbrev pub marks_by : Symbol → List Word → List DeclMark
marks_by side kinds = map (mark_by side) kinds

-- "[" kinds "]"
unfoldable pub kind_list : Phrase Token (List Word)
kind_list = behind (before symbols.LeftBracket (names_by symbols.Comma)) symbols.RightBracket

unfoldable pub side : Phrase Token Symbol
side = token (one_of sides symbol)

unfoldable pub sided : Phrase Token (List DeclMark)
sided = sequence side (λ s. kind_list) marks_by

unfoldable pub through : Phrase Token (List DeclMark)
through = seen (sign symbols.TaintInTaintOut) (λ p. Through ∷ [])

unfoldable pub one : Phrase Token (List DeclMark)
one = either class sides sided through

-- all of these, in their order
abbrev pub joined : {A : Type 0} → List (List A) → List A
joined [] = []
joined (x ∷ xs) = x ++ joined xs

-- ("," one)+
unfoldable pub others : Phrase Token (List (List DeclMark))
others = sequence (before symbols.Comma one) (λ m. many class (only symbols.Comma) (before symbols.Comma one)) (λ m ms. m ∷ ms)

-- "[" one ("," one)+ "]"
unfoldable pub several : Phrase Token (List DeclMark)
several = behind (sequence (before symbols.LeftBracket one) (λ m. others) (λ m ms. m ++ joined ms)) symbols.RightBracket

unfoldable pub mark_list : Phrase Token (List DeclMark)
mark_list = either class (only symbols.Union) (before symbols.Union several) one

-- ---- parameters

-- NAME [":" marks]
unfoldable pub marked : Phrase Token (Word × List DeclMark)
marked = sequence identifier (λ n. optional symbols.Colon mark_list) (λ n ms. (n, ms))

-- ["=" "..."]
unfoldable pub default : Phrase Token Bool
default = given symbols.Equal (before symbols.Equal (sign symbols.Ellipsis))

-- a parameter of this name and these marks
abbrev pub named : ParamKind → Pos → Word × List DeclMark → DeclParam
named kind at n = record { kind = kind; name = Some n.0.0; at = at; marks = n.1 }

-- a bare "*" or "/"
abbrev pub bare : ParamKind → Pos → DeclParam
bare kind at = record { kind = kind; name = None; at = at; marks = [] }

unfoldable pub plain : Phrase Token DeclParam
plain = sequence marked (λ n. default) (λ n d. named Plain n.0.1 n)

-- what may stand behind a "*" at this place
unfoldable pub behind_star : Pos → Phrase Token DeclParam
behind_star at = either class names (seen marked (named Rest at)) (nothing (bare Star at))

unfoldable pub star : Phrase Token DeclParam
star = sequence (sign symbols.Star) behind_star (λ at p. p)

unfoldable pub keywords : Phrase Token DeclParam
keywords = sequence (sign symbols.DoubleStar) (λ at. marked) (named Keywords)

unfoldable pub slash : Phrase Token DeclParam
slash = seen (sign symbols.Slash) (bare Slash)

unfoldable pub starred : Phrase Token DeclParam
starred = either class (only symbols.Star) star (either class (only symbols.DoubleStar) keywords slash)

unfoldable pub param : Phrase Token DeclParam
param = either class names plain starred

-- "," [param]
unfoldable pub further_param : Phrase Token (Option DeclParam)
further_param = before symbols.Comma (either class param_first (seen param Some) (nothing None))

-- behind a comma that no parameter follows there is no more
abbrev pub on_behind : Unit {0} → Option DeclParam → Option (Unit {0})
on_behind s (Some p) = Some tt
on_behind s None = None

-- ("," param)* [","]
unfoldable pub further_params : Phrase Token (List (Option DeclParam))
further_params = series class (λ s. only symbols.Comma) (λ s. further_param) on_behind tt

-- those that are there
abbrev pub present : {A : Type 0} → List (Option A) → List A
present [] = []
present (Some x ∷ xs) = x ∷ present xs
present (None ∷ xs) = present xs

-- [param ("," param)* [","]]
unfoldable pub param_list : Phrase Token (List DeclParam)
param_list = either class param_first (sequence param (λ p. further_params) (λ p ps. p ∷ present ps)) (nothing [])

-- "(" params ")"
unfoldable pub parameters : Phrase Token (List DeclParam)
parameters = behind (before symbols.LeftParen param_list) symbols.RightParen

-- ---- models

-- "..." NEWLINE
unfoldable pub ending : Phrase Token Pos
ending = sequence (sign symbols.Ellipsis) (λ p. sign symbols.Newline) (λ p q. q)

-- "def" qname params
unfoldable pub headed : Phrase Token (Parts × List DeclParam)
headed = sequence (before symbols.Def qname) (λ n. parameters) (λ n ps. (n, ps))

-- "def" qname params ["->" marks]
unfoldable pub signature : Phrase Token ((Parts × List DeclParam) × List DeclMark)
signature = sequence headed (λ h. optional symbols.Arrow mark_list) (λ h ms. (h, ms))

-- a model with "def", and whether `@SkipObscure` stands before it
abbrev pub callable_of : Bool → (Parts × List DeclParam) × List DeclMark → Decl
callable_of skip s = record { name = s.0.0; callable = true; skip = skip; params = s.0.1; marks = s.1 }

unfoldable pub definition : Bool → Phrase Token Decl
definition skip = sequence signature (λ s. before symbols.Colon ending) (λ s p. callable_of skip s)

-- "@" "SkipObscure" NEWLINE
unfoldable pub decorator : Phrase Token Pos
decorator = behind (before symbols.At (sign symbols.SkipObscure)) symbols.Newline

unfoldable pub decorated : Phrase Token Decl
decorated = sequence decorator (λ p. definition true) (λ p d. d)

-- qname ":" marks
unfoldable pub typed : Phrase Token (Parts × List DeclMark)
typed = sequence qname (λ n. before symbols.Colon mark_list) (λ n ms. (n, ms))

abbrev pub attribute_of : Parts × List DeclMark → Decl
attribute_of a = record { name = a.0; callable = false; skip = false; params = []; marks = a.1 }

unfoldable pub attribute : Phrase Token Decl
attribute = sequence typed (λ a. before symbols.Equal ending) (λ a p. attribute_of a)

unfoldable pub model : Phrase Token Decl
model = either class (only symbols.At) decorated (either class (only symbols.Def) (definition false) attribute)

unfoldable pub file : Phrase Token (List Decl)
file = many class model_first model
