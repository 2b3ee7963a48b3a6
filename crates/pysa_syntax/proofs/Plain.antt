-- Phrases in which no nesting is limited: their laws, and that none of their tokens opens a nesting too many.
use Rattle.std.proofs.Common.{◌≡◌, ℕ, false, true, List, [], ◌∷◌, Option, Some, None, inl, inr}
use Rattle.py_lexer.specs.declared.token.Token.{Token}
use Rattle.phrases.specs.Phrases.{Phrase, token, nothing, sequence, either, many}
use Rattle.phrases.specs.Series.{series, RunOpens, goes}
use Rattle.phrases.specs.Sets.{apart, fits, within, Sets, token_sets, nothing_sets, then_sets, or_sets, many_sets, item_sets, series_sets}
use Rattle.phrases.specs.Laws.{Laws, Kind}
use Rattle.phrases.proofs.Composed.{token_laws, nothing_laws, sequence_laws, either_laws, many_laws, series_laws, larger_laws}
use Rattle.pysa_syntax.specs.Symbols.{class}

pub record Plain {A : Type 0} (g : Phrase Token A) (s : Sets) : Type 0 where
  pub laws : Laws class g g g s
  pub flat : (x : List Token) → g.Opens x → ⊥

pub plain-token : {A : Type 0} {kind : Token → Option A} {codes : List ℕ} → Kind class kind codes → Plain (token kind) (token_sets codes)
plain-token k = record { laws = token_laws k; flat = λ x o. o }

pub plain-nothing : {A : Type 0} (a : A) → Plain (nothing a) nothing_sets
plain-nothing a = record { laws = nothing_laws class a; flat = λ x o. o }

flat-then : {A B C : Type 0} (g : Phrase Token A) (h : A → Phrase Token B) (f : A → B → C) → ((x : List Token) → g.Opens x → ⊥) → ((a : A) (x : List Token) → (h a).Opens x → ⊥) → (x : List Token) → (sequence g h f).Opens x → ⊥
flat-then g h f first second x (inl o) = first x o
flat-then g h f first second x (inr o) = second o.one o.back o.second

pub plain-then : {A B C : Type 0} {g : Phrase Token A} {h : A → Phrase Token B} {s t : Sets}
    → Plain g s → ((a : A) → Plain (h a) t) → (f : A → B → C) → s.nullable ≡ false → apart t.first s.more ≡ true → Plain (sequence g h f) (then_sets s t)
plain-then {g = g} {h = h} p q f whole aside = record {
  laws = sequence_laws p.laws (λ a. (q a).laws) f whole aside;
  flat = flat-then g h f p.flat (λ a. (q a).flat);
}

flat-or : {A : Type 0} (g h : Phrase Token A) (first : List ℕ) → ((x : List Token) → g.Opens x → ⊥) → ((x : List Token) → h.Opens x → ⊥) → (x : List Token) → (either class first g h).Opens x → ⊥
flat-or g h first p q x (inl o) = p x o
flat-or g h first p q x (inr o) = q x o

pub plain-or : {A : Type 0} {g h : Phrase Token A} {s t : Sets} → Plain g s → Plain h t → s.nullable ≡ false → apart t.first s.first ≡ true → Plain (either class s.first g h) (or_sets s t)
plain-or {g = g} {h = h} {s = s} p q whole aside = record {
  laws = either_laws p.laws q.laws whole aside;
  flat = flat-or g h s.first p.flat q.flat;
}

pub plain-many : {A : Type 0} {g : Phrase Token A} {s : Sets} → Plain g s → s.nullable ≡ false → apart s.first s.more ≡ true → Plain (many class s.first g) (many_sets s)
plain-many p whole aside = record { laws = many_laws p.laws whole aside; flat = λ x o. p.flat o.1 o.5 }

flat-goes : {S : Type 0} (n : Option S) (on : S → Type 0) → ((s : S) → on s → ⊥) → goes n on ⊥ → ⊥
flat-goes None on none h = h
flat-goes (Some s) on none h = none s h

flat-run : {A S : Type 0} (g : S → Phrase Token A) (next : S → A → Option S) → ((s : S) (x : List Token) → (g s).Opens x → ⊥) → (vs : List A) (s : S) (x : List Token) → RunOpens (λ t. (g t).Spells) (λ t. (g t).Opens) next s vs x → ⊥
flat-run g next none [] s x o = none s x o
flat-run g next none (a ∷ vs) s x o = flat-goes (next s a) (λ t. RunOpens (λ u. (g u).Spells) (λ u. (g u).Opens) next t vs o.1) (λ t h. flat-run g next none vs t o.1 h) o.4

pub plain-series : {A S : Type 0} {g : S → Phrase Token A} {first : S → List ℕ} {more : List ℕ} → ((s : S) → Plain (g s) (item_sets (first s) more)) → (all : List ℕ) → ((s : S) → within (first s) all ≡ true) → apart all more ≡ true
    → (next : S → A → Option S) (s : S) → Plain (series class first g next s) (series_sets (first s) more all)
plain-series {g = g} p all inside aside next s = record {
  laws = series_laws (λ t. (p t).laws) all inside aside next s;
  flat = λ x o. flat-run g next (λ t. (p t).flat) o.0 s x o.1;
}

pub plain-larger : {A : Type 0} {g : Phrase Token A} {s : Sets} (t : Sets) → Plain g s → fits s t ≡ true → Plain g t
plain-larger t p e = record { laws = larger_laws t p.laws e; flat = p.flat }
