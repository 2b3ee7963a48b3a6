-- The grammar of the tests is lawful: a line for each of its productions.
use Rattle.std.proofs.Common.{◌≡◌, ℕ, zero, suc, ◌-◌, ◌<◌, Bool, true, false, cond, List, [], ◌∷◌, ◌++◌, length, Some, None, inr, refl, arith}
use Rattle.phrases.specs.Laws.{Laws, Kind}
use Rattle.phrases.specs.Phrases.{Phrase}
use Rattle.phrases.specs.Sets.{has, within, token_sets, item_sets, series_sets, or_sets, nothing_sets}
use Rattle.phrases.specs.Nesting.{nest}
use Rattle.phrases.specs.Example.{names, keywords, class, one_of, comma, with_keyword, argument, item, item_first, item_next, items, arguments, call_over, inner, call, call_sets}
use Rattle.phrases.proofs.Composed.{token_laws, opener_laws, nothing_laws, sequence_laws, either_laws, series_laws, larger_laws}
use Rattle.phrases.proofs.Nested.{nest_laws}

knows : (codes : List ℕ) (t a : ℕ) (b : Bool) → has codes t ≡ b → cond b (Some t) None ≡ Some a → has codes t ≡ true
knows codes t a true h e = h
knows codes t a false h e = absurd cc

only : (t : ℕ) (b : Bool) → b ≡ true → cond b (Some t) None ≡ None → ⊥
only t true h e = cc
only t false h e = cc

kind : (codes : List ℕ) (sample : ℕ) → has codes sample ≡ true → Kind class (one_of codes) codes
kind codes sample h = record {
  knows = λ t a e. knows codes t a (has codes t) refl e;
  only = λ t k e. only t (has codes t) k e;
  sample = sample;
  value = sample;
  is_one = rw h refl;
}

comma_laws : Laws class comma comma comma (or_sets (token_sets (44 ∷ [])) nothing_sets)
unfolding comma
comma_laws = either_laws (larger_laws (token_sets (44 ∷ [])) (sequence_laws (token_laws (kind (44 ∷ []) 44 refl)) (λ m. nothing_laws class true) (λ m c. c) refl refl) refl) (nothing_laws class false) refl refl

module _ {g g+ k : Phrase ℕ ℕ} (l : Laws class g g+ k call_sets) where
  keyword_laws : Laws class (with_keyword g) (with_keyword g+) (with_keyword k) (item_sets keywords (40 ∷ []))
  unfolding with_keyword
  keyword_laws = larger_laws (item_sets keywords (40 ∷ [])) (sequence_laws (token_laws (kind keywords 107 refl)) (λ m. l) (λ m c. (true, c)) refl refl) refl

  argument_laws : (s : Bool) → Laws class (argument g s) (argument g+ s) (argument k s) (item_sets (item_first s) (40 ∷ []))
  unfolding argument
  argument_laws false = larger_laws (item_sets (item_first false) (40 ∷ [])) (either_laws keyword_laws (sequence_laws l (λ c. nothing_laws class c) (λ c n. (false, c)) refl refl) refl refl) refl
  argument_laws true = keyword_laws

  item_laws : (s : Bool) → Laws class (item g s) (item g+ s) (item k s) (item_sets (item_first s) (40 ∷ 44 ∷ []))
  unfolding item
  item_laws false = larger_laws (item_sets (item_first false) (40 ∷ 44 ∷ [])) (sequence_laws (argument_laws false) (λ a. comma_laws) (λ a c. (a.1, cond c (Some a.0) None)) refl refl) refl
  item_laws true = larger_laws (item_sets (item_first true) (40 ∷ 44 ∷ [])) (sequence_laws (argument_laws true) (λ a. comma_laws) (λ a c. (a.1, cond c (Some a.0) None)) refl refl) refl

  inside : (s : Bool) → within (item_first s) (keywords ++ names) ≡ true
  inside false = refl
  inside true = refl

  items_laws : Laws class (items g) (items g+) (items k) (series_sets (keywords ++ names) (40 ∷ 44 ∷ []) (keywords ++ names))
  unfolding items
  items_laws = series_laws item_laws (keywords ++ names) inside refl item_next false

  arguments_laws : (room n : ℕ) → Laws class (arguments room g) (arguments (suc room) g+) (arguments n k) (token_sets (40 ∷ []))
  unfolding arguments
  arguments_laws room n =
      larger_laws (token_sets (40 ∷ []))
      (sequence_laws (sequence_laws (opener_laws room n (kind (40 ∷ []) 40 refl)) (λ m. items_laws) (λ m is. length is) refl refl) (λ c. token_laws (kind (41 ∷ []) 41 refl)) (λ c m. c) refl refl) refl

  over_laws : (room n : ℕ) → Laws class (call_over room g) (call_over (suc room) g+) (call_over n k) call_sets
  unfolding call_over
  over_laws room n =
      larger_laws call_sets (sequence_laws (token_laws (kind names 120 refl)) (λ m. either_laws (arguments_laws room n) (nothing_laws class 0) refl refl) (λ m c. c) refl refl) refl

-- a name is a call
some_call : (room : ℕ) (g : Phrase ℕ ℕ) → (x : List ℕ) × (a : ℕ) × (call_over room g).Spells x a
unfolding call_over
some_call room g = (
  120 ∷ [],
  0,
  record {
    front = 120 ∷ [];
    back = [];
    one = 120;
    two = 0;
    split = refl;
    first = record { token = 120; alone = refl; is = refl };
    second = inr (refl, refl);
    value = refl;
  },
)

inner_laws : (room n : ℕ) → Laws class (inner room) (inner (suc room)) (inner n) call_sets
inner_laws = nest_laws class call_sets refl call_over 120 refl some_call (λ room n i i+ k l. over_laws l room n)

pub call_laws : (room n : ℕ) → Laws class (call room) (call (suc room)) (call n) call_sets
unfolding call nest
call_laws room n = over_laws (inner_laws room n) room n

-- what stands in a nesting is a call with one less room
pub inner_is : (room : ℕ) → 0 < room → inner room ≡ call (room - 1)
unfolding call nest
inner_is zero h = absurd (omega arith)
inner_is (suc room) h = let e : suc room - 1 ≡ room = omega arith in rw e refl
