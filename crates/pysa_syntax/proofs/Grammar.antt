-- The grammar of model files is lawful: a line for each of its productions.
use Rattle.std.proofs.Common.{◌≡◌, ℕ, Bool, true, false, cond, List, [], ◌∷◌, ◌++◌, Some, None, refl, codes}
use Rattle.py_literals.specs.declared.place.Pos.{Pos}
use Rattle.py_lexer.specs.declared.token.Kind.{Kind}
use Rattle.py_lexer.specs.declared.token.Kind.TheVariants as kinds
use Rattle.py_lexer.specs.declared.token.Value.TheVariants as values
use Rattle.py_lexer.specs.declared.token.Token.{Token}
use Rattle.phrases.specs.Phrases.{Phrase}
use Rattle.phrases.specs.Sets.{has, apart, Sets, token_sets, nothing_sets, then_sets, or_sets, item_sets, series_sets}
use Rattle.phrases.specs.Laws as laws
use Rattle.pysa_syntax.specs.declared.symbol.Symbol.{Symbol}
use Rattle.pysa_syntax.specs.declared.symbol.Symbol.TheVariants as symbols
use Rattle.pysa_syntax.specs.declared.decl.DeclMark.TheVariants.{Through}
use Rattle.pysa_syntax.specs.declared.decl.ParamKind.TheVariants as kinds_of_param
use Rattle.pysa_syntax.specs.Symbols.{class, symbol, only, names, sides, mark_first, param_first, model_first}
use Rattle.pysa_syntax.specs.Grammar.{one_of, sign, identifier, before, behind, seen, optional, given, names_by, texts, qname, marks_by, kind_list, side, sided, through, one, joined, others, several, mark_list, marked, default, named, bare, plain, behind_star, star, keywords, slash, starred, param, further_param, on_behind, further_params, present, param_list, parameters, ending, headed, signature, callable_of, definition, decorator, decorated, typed, attribute_of, attribute, model, file}
use Rattle.pysa_syntax.proofs.Plain.{Plain, plain-token, plain-nothing, plain-then, plain-or, plain-many, plain-series, plain-larger}

-- ---- tokens

some_place : Pos
some_place = record { line = 1; col = 1 }

-- a token of this kind, and a name of this text
some_token : Kind → Token
some_token kind = record { kind = kind; value = values.Nothing; at = some_place }

some_name : List ℕ → Token
some_name text = record { kind = kinds.Name; value = values.Name text; at = some_place }

knows : {A : Type 0} (a v : A) (b : Bool) → cond b (Some v) None ≡ Some a → b ≡ true
knows a v true e = refl
knows a v false e = absurd cc

missed : {A : Type 0} (v : A) (b : Bool) → b ≡ true → cond b (Some v) None ≡ None → ⊥
missed v true h e = cc
missed v false h e = cc

kind : {A : Type 0} (list : List ℕ) (view : Token → A) (sample : Token) → has list (class sample) ≡ true → laws.Kind class (one_of list view) list
kind list view sample h = record {
  knows = λ t a e. knows a (view t) (has list (class t)) e;
  only = λ t h e. missed (view t) (has list (class t)) h e;
  sample = sample;
  value = view sample;
  is_one = rw h refl;
}

sign-of : (s : Symbol) (sample : Token) → has (only s) (class sample) ≡ true → Plain (sign s) (token_sets (only s))
unfolding sign
sign-of s sample h = plain-token (kind (only s) (λ t. t.at) sample h)

-- each symbol is that of some token
pub sample : (s : Symbol) → Plain (sign s) (token_sets (only s))
unfolding symbol some_token some_name
sample symbols.Name = sign-of symbols.Name (some_name []) refl
sample symbols.TaintSource = sign-of symbols.TaintSource (some_name (codes "TaintSource")) refl
sample symbols.TaintSink = sign-of symbols.TaintSink (some_name (codes "TaintSink")) refl
sample symbols.TaintInTaintOut = sign-of symbols.TaintInTaintOut (some_name (codes "TaintInTaintOut")) refl
sample symbols.Union = sign-of symbols.Union (some_name (codes "Union")) refl
sample symbols.SkipObscure = sign-of symbols.SkipObscure (some_name (codes "SkipObscure")) refl
sample symbols.Def = sign-of symbols.Def (some_token kinds.Def) refl
sample symbols.At = sign-of symbols.At (some_token kinds.At) refl
sample symbols.Star = sign-of symbols.Star (some_token kinds.Star) refl
sample symbols.DoubleStar = sign-of symbols.DoubleStar (some_token kinds.DoubleStar) refl
sample symbols.Slash = sign-of symbols.Slash (some_token kinds.Slash) refl
sample symbols.LeftParen = sign-of symbols.LeftParen (some_token kinds.LeftParen) refl
sample symbols.RightParen = sign-of symbols.RightParen (some_token kinds.RightParen) refl
sample symbols.LeftBracket = sign-of symbols.LeftBracket (some_token kinds.LeftBracket) refl
sample symbols.RightBracket = sign-of symbols.RightBracket (some_token kinds.RightBracket) refl
sample symbols.Comma = sign-of symbols.Comma (some_token kinds.Comma) refl
sample symbols.Colon = sign-of symbols.Colon (some_token kinds.Colon) refl
sample symbols.Dot = sign-of symbols.Dot (some_token kinds.Dot) refl
sample symbols.Equal = sign-of symbols.Equal (some_token kinds.Equal) refl
sample symbols.Arrow = sign-of symbols.Arrow (some_token kinds.Arrow) refl
sample symbols.Ellipsis = sign-of symbols.Ellipsis (some_token kinds.Ellipsis) refl
sample symbols.Newline = sign-of symbols.Newline (some_token kinds.Newline) refl
sample symbols.Other = sign-of symbols.Other (some_token kinds.Semicolon) refl

pub identifier-is : Plain identifier (token_sets names)
unfolding identifier symbol some_name
identifier-is = plain-token (kind names _ (some_name []) refl)

pub side-is : Plain side (token_sets sides)
unfolding side symbol some_name
side-is = plain-token (kind sides symbol (some_name (codes "TaintSink")) refl)

-- ---- ways to put phrases together

abbrev pub sets : List ℕ → List ℕ → Sets
sets first more = record { first = first; more = more; nullable = false }

abbrev pub empty_sets : List ℕ → List ℕ → Sets
empty_sets first more = record { first = first; more = more; nullable = true }

apart_none : (xs : List ℕ) → apart xs [] ≡ true
apart_none [] = refl
apart_none (x ∷ xs) = apart_none xs

before-is : {A : Type 0} {g : Phrase Token A} {s : Sets} (b : Symbol) → Plain g s → Plain (before b g) (then_sets (token_sets (only b)) s)
unfolding before
before-is {s = s} b p = plain-then (sample b) (λ q. p) (λ q a. a) refl (apart_none s.first)

behind-is : {A : Type 0} {g : Phrase Token A} {s : Sets} (b : Symbol) → Plain g s → s.nullable ≡ false → apart (only b) s.more ≡ true → Plain (behind g b) (then_sets s (token_sets (only b)))
unfolding behind
behind-is b p whole aside = plain-then p (λ a. sample b) (λ a q. a) whole aside

seen-is : {A B : Type 0} {g : Phrase Token A} {s : Sets} (f : A → B) → Plain g s → s.nullable ≡ false → Plain (seen g f) (sets s.first s.more)
unfolding seen
seen-is f p whole = plain-then p (λ a. plain-nothing a) (λ a b. f b) whole refl

optional-is : {A : Type 0} {g : Phrase Token (List A)} {s : Sets} (b : Symbol) → Plain g s → Plain (optional b g) (or_sets (then_sets (token_sets (only b)) s) nothing_sets)
unfolding optional
optional-is b p = plain-or (before-is b p) (plain-nothing []) refl refl

given-is : {g : Phrase Token Pos} {more : List ℕ} (b : Symbol) → Plain g (sets (only b) more) → Plain (given b g) (or_sets (sets (only b) more) nothing_sets)
unfolding given
given-is b p = plain-or (seen-is (λ q. true) p refl) (plain-nothing false) refl refl

names-are : (b : Symbol) → Plain (names_by b) (sets names (only b))
unfolding names_by
names-are b = plain-then identifier-is (λ n. plain-many (before-is b identifier-is) refl refl) (λ n ns. n ∷ ns) refl refl

-- ---- names and marks

qname-is : Plain qname (sets names (only symbols.Dot))
unfolding qname
qname-is = seen-is texts (names-are symbols.Dot) refl

kinds-are : Plain kind_list (sets (only symbols.LeftBracket) [])
unfolding kind_list
kinds-are = behind-is symbols.RightBracket (before-is symbols.LeftBracket (names-are symbols.Comma)) refl refl

one-is : Plain one (sets mark_first [])
unfolding one sided through
one-is = plain-or (plain-then side-is (λ s. kinds-are) marks_by refl refl) (seen-is (λ p. Through ∷ []) (sample symbols.TaintInTaintOut) refl) refl refl

others-are : Plain others (sets (only symbols.Comma) (only symbols.Comma))
unfolding others
others-are = plain-then (before-is symbols.Comma one-is) (λ m. plain-many (before-is symbols.Comma one-is) refl refl) (λ m ms. m ∷ ms) refl refl

several-are : Plain several (sets (only symbols.LeftBracket) [])
unfolding several
several-are = behind-is symbols.RightBracket (plain-then (before-is symbols.LeftBracket one-is) (λ m. others-are) (λ m ms. m ++ joined ms) refl refl) refl refl

marks-are : Plain mark_list (sets (only symbols.Union ++ mark_first) [])
unfolding mark_list
marks-are = plain-or (before-is symbols.Union several-are) one-is refl refl

-- ---- parameters

marked-is : Plain marked (sets names (only symbols.Colon))
unfolding marked
marked-is = plain-then identifier-is (λ n. optional-is symbols.Colon marks-are) (λ n ms. (n, ms)) refl refl

default-is : Plain default (empty_sets (only symbols.Equal) (only symbols.Equal))
unfolding default
default-is = given-is symbols.Equal (before-is symbols.Equal (sample symbols.Ellipsis))

plain-is : Plain plain (sets names (only symbols.Equal ++ only symbols.Colon))
unfolding plain
plain-is = plain-then marked-is (λ n. default-is) (λ n d. named kinds_of_param.Plain n.0.1 n) refl refl

star-is : Plain star (sets (only symbols.Star) (only symbols.Colon ++ names))
unfolding star behind_star
star-is = plain-then (sample symbols.Star) (λ at. plain-or (seen-is (named kinds_of_param.Rest at) marked-is refl) (plain-nothing (bare kinds_of_param.Star at)) refl refl) (λ at p. p) refl refl

keywords-is : Plain keywords (sets (only symbols.DoubleStar) (only symbols.Colon))
unfolding keywords
keywords-is = plain-then (sample symbols.DoubleStar) (λ at. marked-is) (named kinds_of_param.Keywords) refl refl

slash-is : Plain slash (sets (only symbols.Slash) [])
unfolding slash
slash-is = seen-is (bare kinds_of_param.Slash) (sample symbols.Slash) refl

abbrev param_more : List ℕ
param_more = only symbols.Equal ++ (only symbols.Colon ++ names)

starred-is : Plain starred (sets (only symbols.Star ++ (only symbols.DoubleStar ++ only symbols.Slash)) param_more)
unfolding starred
starred-is = plain-larger (sets (only symbols.Star ++ (only symbols.DoubleStar ++ only symbols.Slash)) param_more) (plain-or star-is (plain-or keywords-is slash-is refl refl) refl refl) refl

param-is : Plain param (sets param_first param_more)
unfolding param
param-is = plain-larger (sets param_first param_more) (plain-or plain-is starred-is refl refl) refl

abbrev further_more : List ℕ
further_more = param_more ++ param_first

further-is : Plain further_param (item_sets (only symbols.Comma) further_more)
unfolding further_param
further-is =
    plain-larger (item_sets (only symbols.Comma) further_more) (before-is symbols.Comma (plain-or (seen-is Some param-is refl) (plain-nothing None) refl refl)) refl

furthers-are : Plain further_params (series_sets (only symbols.Comma) further_more (only symbols.Comma))
unfolding further_params
furthers-are = plain-series (λ s. further-is) (only symbols.Comma) (λ s. refl) refl on_behind tt

list-is : Plain param_list (empty_sets param_first (further_more ++ (only symbols.Comma ++ param_first)))
unfolding param_list
list-is =
    plain-larger (empty_sets param_first (further_more ++ (only symbols.Comma ++ param_first)))
    (plain-or (plain-then param-is (λ p. furthers-are) (λ p ps. p ∷ present ps) refl refl) (plain-nothing []) refl refl) refl

parameters-are : Plain parameters (sets (only symbols.LeftParen) [])
unfolding parameters
parameters-are = plain-larger (sets (only symbols.LeftParen) []) (behind-is symbols.RightParen (before-is symbols.LeftParen list-is) refl refl) refl

-- ---- models

ending-is : Plain ending (sets (only symbols.Ellipsis) [])
unfolding ending
ending-is = plain-then (sample symbols.Ellipsis) (λ p. sample symbols.Newline) (λ p q. q) refl refl

headed-is : Plain headed (sets (only symbols.Def) [])
unfolding headed
headed-is = plain-then (before-is symbols.Def qname-is) (λ n. parameters-are) (λ n ps. (n, ps)) refl refl

signature-is : Plain signature (sets (only symbols.Def) (only symbols.Arrow))
unfolding signature
signature-is = plain-then headed-is (λ h. optional-is symbols.Arrow marks-are) (λ h ms. (h, ms)) refl refl

definition-is : (skip : Bool) → Plain (definition skip) (sets (only symbols.Def) [])
unfolding definition
definition-is skip = plain-then signature-is (λ s. before-is symbols.Colon ending-is) (λ s p. callable_of skip s) refl refl

decorated-is : Plain decorated (sets (only symbols.At) [])
unfolding decorated decorator
decorated-is =
    plain-then (behind-is symbols.Newline (before-is symbols.At (sample symbols.SkipObscure)) refl refl) (λ p. definition-is true) (λ p d. d) refl refl

attribute-is : Plain attribute (sets names [])
unfolding attribute typed
attribute-is =
    plain-then (plain-then qname-is (λ n. before-is symbols.Colon marks-are) (λ n ms. (n, ms)) refl refl) (λ a. before-is symbols.Equal ending-is) (λ a p. attribute_of a) refl refl

model-is : Plain model (sets model_first [])
unfolding model
model-is = plain-or decorated-is (plain-or (definition-is false) attribute-is refl refl) refl refl

pub file-is : Plain file (empty_sets model_first model_first)
unfolding file
file-is = plain-many model-is refl refl
