-- No list of tokens that is spelled has a form in it that isn't read: each production, and which symbols may be its last.
use Rattle.std.proofs.Common.{◌≡◌, ℕ, zero, suc, Bool, true, false, cond, List, [], ◌∷◌, ◌++◌, drop, Some, None, refl}
use Rattle.std.specs.Prelude.{slice_get}
use Rattle.rv_names.specs.Keys.{Bytes}
use Rattle.py_lexer.specs.declared.token.Token.{Token}
use Rattle.phrases.specs.Phrases.{Phrase}
use Rattle.phrases.specs.Sets.{Sets, apart, token_sets, nothing_sets, then_sets, or_sets, item_sets}
use Rattle.phrases.proofs.Sets.{apart_none}
use Rattle.pysa_syntax.specs.declared.symbol.Symbol.{Symbol}
use Rattle.pysa_syntax.specs.declared.symbol.Symbol.TheVariants as symbols
use Rattle.pysa_syntax.specs.declared.decl.Decl.{Decl}
use Rattle.pysa_syntax.specs.declared.decl.DeclMark.TheVariants.{Through}
use Rattle.pysa_syntax.specs.declared.decl.ParamKind.TheVariants as kinds_of_param
use Rattle.pysa_syntax.specs.Symbols.{class, code, symbol, text_in, only, names, sides, mark_first, param_first, model_first}
use Rattle.pysa_syntax.specs.Grammar.{one_of, sign, identifier, before, behind, seen, optional, given, names_by, texts, qname, marks_by, kind_list, side, sided, through, one, joined, others, several, mark_list, marked, default, named, bare, plain, behind_star, star, keywords, slash, starred, param, further_param, on_behind, further_params, present, param_list, parameters, ending, headed, signature, callable_of, definition, decorator, decorated, typed, attribute_of, attribute, model, file}
use Rattle.pysa_syntax.specs.Faults.{Spells}
use Rattle.pysa_syntax.specs.Forms.{form_by, form_of, form_in_front, is_newline, form_at}
use Rattle.pysa_syntax.proofs.Grammar.{sets, empty_sets, sample, identifier-is, side-is}
use Rattle.pysa_syntax.proofs.Neighbours.{bad, line_end, Fine, Lasts, ok, inside, Clean, single, clean-token, clean-nothing, clean-then, clean-or, clean-many, clean-series, clean-as}

-- ---- ways to put phrases together

sign-clean : (b : Bool) (s : Symbol) → Clean b (sign s) (token_sets (only s)) (single b (only s))
unfolding sign
sign-clean b s = clean-token b (one_of (only s) (λ t. t.at)) (only s) (sample s)

name-clean : (b : Bool) → Clean b identifier (token_sets names) (single b names)
unfolding identifier
name-clean b = clean-token b (one_of names (λ t. (text_in t.value, t.at))) names identifier-is

side-clean : Clean false side (token_sets sides) (single false sides)
unfolding side
side-clean = clean-token false (one_of sides symbol) sides side-is

before-clean : {A : Type 0} {g : Phrase Token A} {t : Sets} {m : Lasts} (b : Bool) (s : Symbol) → Clean false g t m → ok false (single b (only s)) t.first ≡ true → cond t.nullable (inside (single b (only s)) m) true ≡ true
    → Clean b (before s g) (then_sets (token_sets (only s)) t) m
unfolding before
before-clean {t = t} b s q e n = clean-then false (sign-clean b s) (λ p. q) (λ p a. a) refl (apart_none t.first) e n

behind-clean : {A : Type 0} {b : Bool} {g : Phrase Token A} {t : Sets} {l : Lasts} (s : Symbol) → Clean b g t l → t.nullable ≡ false → apart (only s) t.more ≡ true → ok false l (only s) ≡ true
    → Clean b (behind g s) (then_sets t (token_sets (only s))) (single false (only s))
unfolding behind
behind-clean s p whole aside e = clean-then false p (λ a. sign-clean false s) (λ a q. a) whole aside e refl

seen-clean : {A B : Type 0} {b : Bool} {g : Phrase Token A} {s : Sets} {l : Lasts} (f : A → B) → Clean b g s l → s.nullable ≡ false → ok false l [] ≡ true → inside l l ≡ true → Clean b (seen g f) (sets s.first s.more) l
unfolding seen
seen-clean {l = l} f p whole e n = clean-then false p (λ a. clean-nothing false a l) (λ a b. f b) whole refl e n

optional-clean : {A : Type 0} {g : Phrase Token (List A)} {t : Sets} {m : Lasts} (s : Symbol) → Clean false g t m → ok false (single false (only s)) t.first ≡ true → cond t.nullable (inside (single false (only s)) m) true ≡ true
    → Clean false (optional s g) (or_sets (then_sets (token_sets (only s)) t) nothing_sets) m
unfolding optional
optional-clean {m = m} s q e n = clean-or (before-clean false s q e n) (clean-nothing false [] m) refl refl

-- ---- names and marks

further-names : (s : Symbol) → ok false (single false (only s)) names ≡ true → ok false (single false names) (only s) ≡ true → Clean false (names_by s) (sets names (only s)) (single false names)
unfolding names_by
further-names s e h = clean-then false (name-clean false) (λ n. clean-many (before-clean false s (name-clean false) e refl) refl refl h) (λ n ns. n ∷ ns) refl refl h refl

abbrev names_last : Lasts
names_last = record { beginning = names; later = names }

first-names : Clean true (names_by symbols.Dot) (sets names (only symbols.Dot)) names_last
unfolding names_by
first-names =
    clean-then false (name-clean true)
    (λ n. clean-as (empty_sets (only symbols.Dot) (only symbols.Dot)) names_last (clean-many (before-clean false symbols.Dot (name-clean false) refl refl) refl refl refl) refl refl refl)
    (λ n ns. n ∷ ns) refl refl refl refl

kinds-clean : Clean false kind_list (sets (only symbols.LeftBracket) []) (single false (only symbols.RightBracket))
unfolding kind_list
kinds-clean = behind-clean symbols.RightBracket (before-clean false symbols.LeftBracket (further-names symbols.Comma refl refl) refl refl) refl refl refl

abbrev marks_last : Lasts
marks_last = single false (only symbols.RightBracket ++ only symbols.TaintInTaintOut)

one-clean : Clean false one (sets mark_first []) marks_last
unfolding one sided through
one-clean =
    clean-or (clean-as (sets sides []) marks_last (clean-then false side-clean (λ s. kinds-clean) marks_by refl refl refl refl) refl refl refl)
    (clean-as (sets (only symbols.TaintInTaintOut) []) marks_last (seen-clean (λ p. Through ∷ []) (sign-clean false symbols.TaintInTaintOut) refl refl refl) refl refl refl) refl refl

others-clean : Clean false others (sets (only symbols.Comma) (only symbols.Comma)) marks_last
unfolding others
others-clean =
    clean-then false (before-clean false symbols.Comma one-clean refl refl) (λ m. clean-many (before-clean false symbols.Comma one-clean refl refl) refl refl refl) (λ m ms. m ∷ ms) refl refl refl refl

several-clean : Clean false several (sets (only symbols.LeftBracket) []) (single false (only symbols.RightBracket))
unfolding several
several-clean =
    behind-clean symbols.RightBracket (clean-then false (before-clean false symbols.LeftBracket one-clean refl refl) (λ m. others-clean) (λ m ms. m ++ joined ms) refl refl refl refl) refl refl refl

marks-clean : Clean false mark_list (sets (only symbols.Union ++ mark_first) []) marks_last
unfolding mark_list
marks-clean = clean-or (clean-as (sets (only symbols.Union) []) marks_last (before-clean false symbols.Union several-clean refl refl) refl refl refl) one-clean refl refl

-- ---- parameters

abbrev param_last : Lasts
param_last =
    single false (names ++ (only symbols.RightBracket ++ (only symbols.TaintInTaintOut ++ (only symbols.Ellipsis ++ (only symbols.Star ++ only symbols.Slash)))))

abbrev optional_sets : Symbol → Sets
optional_sets s = empty_sets (only s) (only s)

marked-clean : Clean false marked (sets names (only symbols.Colon)) param_last
unfolding marked
marked-clean =
    clean-then false (name-clean false) (λ n. clean-as (optional_sets symbols.Colon) param_last (optional-clean symbols.Colon marks-clean refl refl) refl refl refl) (λ n ms. (n, ms))
    refl refl refl refl

default-clean : Clean false default (optional_sets symbols.Equal) param_last
unfolding default given
default-clean =
    clean-as (optional_sets symbols.Equal) param_last
    (clean-or (seen-clean (λ p. true) (before-clean false symbols.Equal (sign-clean false symbols.Ellipsis) refl refl) refl refl refl) (clean-nothing false false (single false (only symbols.Ellipsis))) refl refl)
    refl refl refl

plain-clean : Clean false plain (sets names (only symbols.Equal ++ only symbols.Colon)) param_last
unfolding plain
plain-clean = clean-then false marked-clean (λ n. default-clean) (λ n d. named kinds_of_param.Plain n.0.1 n) refl refl refl refl

star-clean : Clean false star (sets (only symbols.Star) (only symbols.Colon ++ names)) param_last
unfolding star behind_star
star-clean =
    clean-then false (sign-clean false symbols.Star)
    (λ at. clean-or (seen-clean (named kinds_of_param.Rest at) marked-clean refl refl refl) (clean-nothing false (bare kinds_of_param.Star at) param_last) refl refl) (λ at p. p) refl refl refl refl

keywords-clean : Clean false keywords (sets (only symbols.DoubleStar) (only symbols.Colon)) param_last
unfolding keywords
keywords-clean = clean-then false (sign-clean false symbols.DoubleStar) (λ at. marked-clean) (named kinds_of_param.Keywords) refl refl refl refl

slash-clean : Clean false slash (sets (only symbols.Slash) []) param_last
unfolding slash
slash-clean = clean-as (sets (only symbols.Slash) []) param_last (seen-clean (bare kinds_of_param.Slash) (sign-clean false symbols.Slash) refl refl refl) refl refl refl

abbrev param_more : List ℕ
param_more = only symbols.Equal ++ (only symbols.Colon ++ names)

param-clean : Clean false param (sets param_first param_more) param_last
unfolding param starred
param-clean = clean-as (sets param_first param_more) param_last (clean-or plain-clean (clean-or star-clean (clean-or keywords-clean slash-clean refl refl) refl refl) refl refl) refl refl refl

abbrev further_more : List ℕ
further_more = param_more ++ param_first

-- with what parameters in parentheses may end before the closing one
abbrev list_last : Lasts
list_last = single false (only symbols.LeftParen ++ (only symbols.Comma ++ param_last.later))

further-clean : Clean false further_param (item_sets (only symbols.Comma) further_more) list_last
unfolding further_param
further-clean =
    clean-as (item_sets (only symbols.Comma) further_more) list_last
    (before-clean false symbols.Comma (clean-or (clean-as (sets param_first param_more) list_last (seen-clean Some param-clean refl refl refl) refl refl refl) (clean-nothing false None list_last) refl refl) refl refl)
    refl refl refl

list-clean : Clean false param_list (empty_sets param_first (further_more ++ (only symbols.Comma ++ param_first))) list_last
unfolding param_list further_params
list-clean =
    clean-as (empty_sets param_first (further_more ++ (only symbols.Comma ++ param_first))) list_last
    (clean-or (clean-then false param-clean (λ p. clean-series (λ s. further-clean) refl refl refl on_behind tt) (λ p ps. p ∷ present ps) refl refl refl refl) (clean-nothing false [] list_last) refl refl)
    refl refl refl

parameters-clean : Clean false parameters (sets (only symbols.LeftParen) []) (single false (only symbols.RightParen))
unfolding parameters
parameters-clean =
    clean-as (sets (only symbols.LeftParen) []) (single false (only symbols.RightParen)) (behind-clean symbols.RightParen (before-clean false symbols.LeftParen list-clean refl refl) refl refl refl)
    refl refl refl

-- ---- models

abbrev line_last : Lasts
line_last = single false (only symbols.Newline)

ending-clean : Clean false ending (sets (only symbols.Ellipsis) []) line_last
unfolding ending
ending-clean = clean-then false (sign-clean false symbols.Ellipsis) (λ p. sign-clean false symbols.Newline) (λ p q. q) refl refl refl refl

headed-clean : Clean true headed (sets (only symbols.Def) []) (single false (only symbols.RightParen))
unfolding headed qname
headed-clean =
    clean-then false (before-clean true symbols.Def (seen-clean texts (further-names symbols.Dot refl refl) refl refl refl) refl refl) (λ n. parameters-clean) (λ n ps. (n, ps)) refl refl refl refl

abbrev signature_last : Lasts
signature_last = single false (only symbols.RightParen ++ marks_last.later)

signature-clean : Clean true signature (sets (only symbols.Def) (only symbols.Arrow)) signature_last
unfolding signature
signature-clean =
    clean-then false headed-clean (λ h. clean-as (optional_sets symbols.Arrow) signature_last (optional-clean symbols.Arrow marks-clean refl refl) refl refl refl) (λ h ms. (h, ms))
    refl refl refl refl

definition-clean : (skip : Bool) → Clean true (definition skip) (sets (only symbols.Def) []) line_last
unfolding definition
definition-clean skip = clean-then false signature-clean (λ s. before-clean false symbols.Colon ending-clean refl refl) (λ s p. callable_of skip s) refl refl refl refl

decorated-clean : Clean true decorated (sets (only symbols.At) []) line_last
unfolding decorated decorator
decorated-clean =
    clean-then true (behind-clean symbols.Newline (before-clean true symbols.At (sign-clean false symbols.SkipObscure) refl refl) refl refl refl) (λ p. definition-clean true) (λ p d. d)
    refl refl refl refl

attribute-clean : Clean true attribute (sets names []) line_last
unfolding attribute typed qname
attribute-clean =
    clean-then false
    (clean-then false (seen-clean texts first-names refl refl refl) (λ n. before-clean false symbols.Colon marks-clean refl refl) (λ n ms. (n, ms)) refl refl refl refl)
    (λ a. before-clean false symbols.Equal ending-clean refl refl) (λ a p. attribute_of a) refl refl refl refl

file-clean : Clean true file (empty_sets model_first model_first) line_last
unfolding file model
file-clean = clean-many (clean-or decorated-clean (clean-or (definition-clean false) attribute-clean refl refl) refl refl) refl refl refl

-- ---- no form

by-symbols : (b : Bool) (s : Symbol) (x : Bytes) (u : Symbol) (y : Bytes) → bad b (code s) (code u) ≡ false → form_by b s x u y ≡ None
by-symbols b symbols.Name x symbols.LeftBracket y e = absurd cc
by-symbols true symbols.Name x symbols.LeftParen y e = absurd cc
by-symbols false symbols.Name x symbols.LeftParen y e = refl
by-symbols b symbols.Name x _ y e = refl
by-symbols b symbols.At x symbols.Name y e = absurd cc
by-symbols b symbols.At x _ y e = refl
by-symbols b _ x u y e = refl

no-form : (b : Bool) (t u : Token) → bad b (class t) (class u) ≡ false → form_of b t u ≡ None
unfolding form_of
no-form b t u e = by-symbols b (symbol t) (text_in t.value) (symbol u) (text_in u.value) e

tail : (b : Bool) (t : Token) (ts : List Token) → Fine b (t ∷ ts) → Fine (line_end (class t)) ts
tail b t [] f = tt
tail b t (u ∷ ts) f = f.1

abbrev begins_from : Bool → List Token → ℕ → Bool
begins_from b ts zero = b
begins_from b ts (suc i) = is_newline (slice_get ts i)

none-at : (b : Bool) (ts : List Token) → Fine b ts → (i : ℕ) → form_in_front (begins_from b ts i) (drop i ts) ≡ None
none-at b [] f zero = refl
none-at b [] f (suc i) = refl
none-at b (t ∷ []) f zero = refl
none-at b (t ∷ u ∷ ts) f zero = no-form b t u f.0
none-at b (t ∷ ts) f (suc zero) = none-at (line_end (class t)) ts (tail b t ts f) zero
none-at b (t ∷ ts) f (suc (suc i)) = none-at (line_end (class t)) ts (tail b t ts f) (suc i)

begins-so : (ts : List Token) → Fine true ts → (i : ℕ) → form_at ts i ≡ None
unfolding form_at
begins-so ts f zero = none-at true ts f zero
begins-so ts f (suc i) = none-at true ts f (suc i)

pub no_form_spelled : (ts : List Token) (decls : List Decl) → Spells ts decls → (i : ℕ) → form_at ts i ≡ None
no_form_spelled ts decls h i = begins-so ts (file-clean.good ts decls h).fine i
