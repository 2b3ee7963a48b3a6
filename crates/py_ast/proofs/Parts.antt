-- The parts that productions are made of are lawful.
use Rattle.std.proofs.Common.{◌≡◌, ℕ, zero, suc, Bool, true, false, cond, List, [], ◌∷◌, ◌++◌, length, Option, Some, None, refl}
use Rattle.phrases.specs.Laws.{Laws, Kind}
use Rattle.phrases.specs.Phrases.{Phrase, nothing}
use Rattle.phrases.specs.Reading.{Read, Stuck}
use Rattle.phrases.specs.Series.{series}
use Rattle.phrases.specs.Sets.{has, ends, apart, within, Sets, token_sets, nothing_sets, then_sets, or_sets, item_sets, series_sets}
use Rattle.phrases.specs.declared.fault.Fault.TheVariants.{Syntax}
use Rattle.phrases.proofs.Composed.{token_laws, opener_laws, nothing_laws, sequence_laws, either_laws, series_laws}
use Rattle.phrases.proofs.Sets.{apart_none, within-has}
use Rattle.py_literals.specs.declared.place.Pos.{Pos}
use Rattle.py_lexer.specs.declared.token.Kind as tokens
use Rattle.py_lexer.specs.declared.token.Kind.TheVariants as kinds
use Rattle.py_lexer.specs.declared.token.Value.TheVariants as values
use Rattle.py_lexer.specs.declared.token.Token.{Token}
use Rattle.py_ast.specs.Kinds.{class, code, mark_of}
use Rattle.py_ast.specs.Grammar.{comma_first, both, second, first_of, mapped, past, ended, comma_item, goes_past, comma_items, bracketed}
use Rattle.py_ast.proofs.TokenLaws.{some_place, some_token, mark-kind}

-- a token of this kind carries nothing, and its class is its code
abbrev pub IsPlain : tokens.Kind → Type 0
IsPlain k = mark_of (code k) (some_token k values.Nothing) ≡ Some some_place

ends_none : (ts : List Token) → ends class [] ts ≡ true
ends_none [] = refl
ends_none (t ∷ ts) = refl

-- nothing, where a token that may begin something else may come
pub nothing-first : {A : Type 0} (first more : List ℕ) (a : A) → Laws {T = Token} class (nothing a) (nothing a) (nothing a) (record { first = first; more = more; nullable = true })
nothing-first first more a = let l = nothing_laws {T = Token} class a in record {
  law = record {
    front = l.law.front;
    again = λ x b y h e. l.law.again x b y h (ends_none y);
    deep = λ x o. absurd o;
    wider = l.law.wider;
    some = l.law.some;
    begins = λ t x b h. absurd (cc (h.0));
    empty = λ b h. refl;
    opens = λ t x o. absurd o;
    accepts = λ t y h k. cc;
  };
  wide = record { wide = λ x b y h e. l.wide.wide x b y h (ends_none y); begins = λ t x b h. absurd (cc (h.0)); empty = λ b h. refl };
}

module _ {A B : Type 0} {g g+ k : Phrase Token A} {s : Sets} (l : Laws class g g+ k s) (whole : s.nullable ≡ false) where
  pub mapped-laws : (f : A → B) → Laws class (mapped g f) (mapped g+ f) (mapped k f) (item_sets s.first s.more)
  unfolding mapped
  mapped-laws f = sequence_laws l (λ a. nothing_laws class a) (λ a b. f b) whole refl

module _ {A : Type 0} {g g+ k : Phrase Token A} {s : Sets} (l : Laws class g g+ k s) where
  pub past-laws : (c : tokens.Kind) → IsPlain c → Laws class (past (code c) g) (past (code c) g+) (past (code c) k) (then_sets (token_sets (code c ∷ [])) s)
  unfolding past
  past-laws c e = sequence_laws (token_laws (mark-kind c e)) (λ m. l) second refl (apart_none s.first)

  pub ended-laws : (c : tokens.Kind) → IsPlain c → s.nullable ≡ false → apart (code c ∷ []) s.more ≡ true → Laws class (ended g (code c)) (ended g+ (code c)) (ended k (code c)) (item_sets s.first [])
  unfolding ended
  ended-laws c e whole aside = sequence_laws l (λ a. token_laws (mark-kind c e)) first_of whole aside

-- ---- commas

abbrev pub comma_item_sets : List ℕ → List ℕ → Sets
comma_item_sets first more = then_sets (token_sets comma_first) (or_sets (item_sets first more) nothing_sets)

pub comma-item-laws : {A : Type 0} {g g+ k : Phrase Token A} {first more : List ℕ} → Laws class g g+ k (item_sets first more)
    → Laws class (comma_item first g) (comma_item first g+) (comma_item first k) (comma_item_sets first more)
unfolding comma_item
comma-item-laws {A} {g} {g+} {k} {first} {more} l =
    sequence_laws (token_laws (mark-kind kinds.Comma refl)) (λ m. either_laws (mapped-laws l refl Some) (nothing_laws class None) refl refl) both refl (apart_none (first ++ []))

pub comma-items-laws : {A S : Type 0} (g g+ k : S → Phrase Token A) (first : S → List ℕ) {more : List ℕ}
    → ((s : S) → Laws class (comma_item (first s) (g s)) (comma_item (first s) (g+ s)) (comma_item (first s) (k s)) (item_sets comma_first more)) → apart comma_first more ≡ true → (next : A → S) (s : S)
    → Laws class (comma_items first g next s) (comma_items first g+ next s) (comma_items first k next s) (series_sets comma_first more comma_first)
unfolding comma_items
comma-items-laws g g+ k first l aside next s = series_laws l comma_first (λ t. refl) aside (λ t i. goes_past next i) s

-- ---- brackets

pub bracketed-laws : (room n : ℕ) (left right : tokens.Kind) → IsPlain left → IsPlain right → {A : Type 0} {g g+ k : Phrase Token A} {first more : List ℕ} → Laws class g g+ k (item_sets first more)
    → apart (code right ∷ []) more ≡ true → apart (code right ∷ []) first ≡ true
    → Laws class (bracketed room (code left) (code right) first g) (bracketed (suc room) (code left) (code right) first g+) (bracketed n (code left) (code right) first k) (token_sets (code left ∷ []))
unfolding bracketed
bracketed-laws room n left right el er {A} {g} {g+} {k} {first} {more} l aside other =
    sequence_laws (opener_laws room n (mark-kind left el))
    (λ m. either_laws (mapped-laws (ended-laws l right er refl aside) refl Some) (sequence_laws (token_laws (mark-kind right er)) (λ c. nothing_laws class None) second refl refl) refl other)
    both refl (apart_none (first ++ code right ∷ []))

-- ---- a series that may be empty, where a token that begins an item of another state may come

module _ {A S : Type 0} {g g+ k : S → Phrase Token A} {first : S → List ℕ} {more : List ℕ} (l : (s : S) → Laws class (g s) (g+ s) (k s) (item_sets (first s) more))
    (all : List ℕ) (inside : (s : S) → within (first s) all ≡ true) (aside : apart all more ≡ true) (next : S → A → Option S) where
  pub series-first : (s : S) → Laws class (series class first g next s) (series class first g+ next s) (series class first k next s) (series_sets all more all)
  series-first s = let m = series_laws l all inside aside next s in record {
    law = record {
      front = m.law.front;
      again = m.law.again;
      deep = m.law.deep;
      wider = m.law.wider;
      some = m.law.some;
      begins = λ t x a h. within-has (first s) all (class t) (inside s) (m.law.begins t x a h);
      empty = m.law.empty;
      opens = λ t x o. within-has (first s) all (class t) (inside s) (m.law.opens t x o);
      accepts = λ t y h e. accepted t y (has (first s) (class t)) refl e;
    };
    wide = record { wide = m.wide.wide; begins = λ t x a h. within-has (first s) all (class t) (inside s) (m.wide.begins t x a h); empty = m.wide.empty };
  }
    where
      accepted : (t : Token) (y : List Token) (b : Bool) → has (first s) (class t) ≡ b → (series class first g next s).read (t ∷ y) ≡ Stuck Syntax (t ∷ y) → ⊥
      accepted t y true h e = (series_laws l all inside aside next s).law.accepts t y h e
      accepted t y false h e = let read : (series class first g next s).read (t ∷ y) ≡ Read [] (t ∷ y) = rw h refl in cc
