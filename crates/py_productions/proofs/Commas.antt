-- Items with separators, of which one may stand behind the last, are read item by item.
use Rattle.std.proofs.Common.{◌≡◌, ℕ, List, [], ◌∷◌, ◌++◌, Option, Some, None, ◌⊎◌, inl, inr, refl, sym, ap, subst, ◌∙◌, append_assoc}
use Rattle.phrases.specs.Phrases.{Phrase, token, nothing, sequence, either}
use Rattle.phrases.specs.Series.{Run}
use Rattle.phrases.specs.Spelling.{Many}
use Rattle.phrases.proofs.Sets.{append_none}
use Rattle.py_literals.specs.declared.place.Pos.{Pos}
use Rattle.py_lexer.specs.declared.token.Kind.{Kind}
use Rattle.py_lexer.specs.declared.token.Kind.TheVariants as kinds
use Rattle.py_lexer.specs.declared.token.Token.{Token}
use Rattle.py_ast.specs.Kinds.{class, code, mark_of}
use Rattle.py_ast.specs.Trees.{given, all_given}
use Rattle.py_ast.specs.Grammar.{both, mapped, comma_item, goes_past, comma_items}
use Rattle.py_productions.specs.Rules.{Word, Maybe, Further, values, Listed, Items}
use Rattle.py_productions.proofs.Parts.{mapped-out, mapped-in}

-- the separators with what stands behind them
abbrev pub commas : {A : Type 0} → List (Pos × A) → Option Pos → List (Pos × Option A)
commas [] None = []
commas [] (Some at) = (at, None) ∷ []
commas ((at, a) ∷ others) end = (at, Some a) ∷ commas others end

pub commas-given : {A : Type 0} (others : List (Pos × A)) (end : Option Pos) → given (commas others end) ≡ values others
commas-given [] None = refl
commas-given [] (Some at) = refl
commas-given ((at, a) ∷ others) end = ap (λ w. a ∷ w) (commas-given others end)

pub given-is : {A : Type 0} (a : A) (is : List (Pos × Option A)) (others : List (Pos × A)) (end : Option Pos) → is ≡ commas others end → all_given (a, is) ≡ a ∷ values others
given-is a is others end h = ap (λ w. a ∷ given w) h ∙ ap (λ w. a ∷ w) (commas-given others end)

-- items, each of which may stand in the state that the one before it leaves
abbrev pub Stands : {A S : Type 0} → (S → A → Type 0) → (A → S) → S → List A → Type 0
Stands Ok next s [] = Unit {0}
Stands Ok next s (a ∷ as_many) = Ok s a × Stands Ok next (next a) as_many

-- where items are in no states, each may stand
abbrev pub Free : {A : Type 0} → Unit {0} → A → Type 0
Free s a = Unit {0}

pub free-stand : {A : Type 0} (as_many : List A) → Stands {A = A} {S = Unit {0}} Free (λ a. tt) tt as_many
free-stand [] = tt
free-stand (a ∷ as_many) = (tt, free-stand as_many)

-- what separators and items spell: one with nothing behind it ends them
pub record Rest {A : Type 0} (mark : Kind) (P : List Token → A → Type 0) (x : List Token) (others : List (Pos × A)) (end : Option Pos) : Type 0 where
  pub middle : List Token
  pub back : List Token
  pub split : x ≡ middle ++ back
  pub further : Many (Further mark P) middle others
  pub trailing : Maybe (Word mark) back end

-- a separator, and an item behind it if one begins there
abbrev pub separated : {A : Type 0} → Kind → List ℕ → Phrase Token A → Phrase Token (Pos × Option A)
separated mark first g = sequence (token (mark_of (code mark))) (λ m. either class first (mapped g Some) (nothing None)) both

module _ {A : Type 0} (mark : Kind) (first : List ℕ) (g : Phrase Token A) where
  alone-out : (x : List Token) (at : Pos) → (separated mark first g).Spells x (at, None) → Word mark x at
  alone-out x at h = by h.second
    where
      by : (mapped g Some).Spells h.back h.two ⊎ ((h.back ≡ []) × (h.two ≡ None)) → Word mark x at
      by (inl w) = let m = mapped-out g Some h.back h.two w in let e = m.value in let v : None ≡ h.two = ap (λ (p : Pos × Option A). p.1) h.value in absurd (cc (e, v))
      by (inr (e, n)) =
          let same : h.one ≡ at = sym (ap (λ (p : Pos × Option A). p.0) h.value) in
          let all : h.front ≡ x = sym (h.split ∙ ap (λ (w : List Token). h.front ++ w) e ∙ append_none h.front) in
          subst (λ (w : List Token). Word mark w at) all (subst (λ (w : Pos). Word mark h.front w) same h.first)

  further-out : (x : List Token) (at : Pos) (a : A) → (separated mark first g).Spells x (at, Some a) → Further mark g.Spells x (at, a)
  further-out x at a h = by h.second
    where
      by : (mapped g Some).Spells h.back h.two ⊎ ((h.back ≡ []) × (h.two ≡ None)) → Further mark g.Spells x (at, a)
      by (inr (e, n)) = let v : Some a ≡ h.two = ap (λ (p : Pos × Option A). p.1) h.value in absurd (cc (n, v))
      by (inl w) =
          let m = mapped-out g Some h.back h.two w in
          let v : Some a ≡ h.two = ap (λ (p : Pos × Option A). p.1) h.value in
          let e = m.value in
          let same : a ≡ m.from = cc (e, v) in
          let place : at ≡ h.one = ap (λ (p : Pos × Option A). p.0) h.value in
          record { front = h.front; back = h.back; one = h.one; two = m.from; split = h.split; first = h.first; second = m.spelled; value = cc (same, place) }

  alone-into : (x : List Token) (at : Pos) → Word mark x at → (separated mark first g).Spells x (at, None)
  alone-into x at w = record { front = x; back = []; one = at; two = None; split = sym (append_none x); first = w; second = inr (refl, refl); value = refl }

  further-into : (x : List Token) (at : Pos) (a : A) → Further mark g.Spells x (at, a) → (separated mark first g).Spells x (at, Some a)
  further-into x at a h = record {
    front = h.front;
    back = h.back;
    one = h.one;
    two = Some h.two;
    split = h.split;
    first = h.first;
    second = inl (mapped-in g Some h.back h.two h.second);
    value = ap (λ (p : Pos × A). (p.0, Some p.1)) h.value;
  }

-- a run of them, in states
abbrev pub SeparatedRun : {A S : Type 0} → Kind → (S → List ℕ) → (S → Phrase Token A) → (A → S) → S → List Token → List (Pos × Option A) → Type 0
SeparatedRun mark first h next s x is = Run (λ t. (separated mark (first t) (h t)).Spells) (λ t i. goes_past next i) s x is

module _ {A S : Type 0} (mark : Kind) (first : S → List ℕ) (h : S → Phrase Token A) (P : List Token → A → Type 0) (Ok : S → A → Type 0) (next : A → S)
    (out : (s : S) (x : List Token) (a : A) → (h s).Spells x a → P x a × Ok s a) (into : (s : S) (x : List Token) (a : A) → P x a → Ok s a → (h s).Spells x a) where
  pub record Rested (s : S) (x : List Token) (is : List (Pos × Option A)) : Type 0 where
    pub others : List (Pos × A)
    pub end : Option Pos
    pub rest : Rest mark P x others end
    pub stand : Stands Ok next s (values others)
    pub same : is ≡ commas others end

  item-out : (s : S) (x : List Token) (at : Pos) (a : A) → Further mark (h s).Spells x (at, a) → Further mark P x (at, a) × Ok s a
  item-out s x at a f =
      let v = f.value in
      let same : f.two ≡ a = sym (ap (λ (p : Pos × A). p.1) v) in
      let (p, o) = out s f.back f.two f.second in
      (record { front = f.front; back = f.back; one = f.one; two = f.two; split = f.split; first = f.first; second = p; value = v }, subst (λ (b : A). Ok s b) same o)

  item-into : (s : S) (x : List Token) (at : Pos) (a : A) → Further mark P x (at, a) → Ok s a → Further mark (h s).Spells x (at, a)
  item-into s x at a f o =
      let v = f.value in
      let same : f.two ≡ a = sym (ap (λ (p : Pos × A). p.1) v) in
      record {
        front = f.front;
        back = f.back;
        one = f.one;
        two = f.two;
        split = f.split;
        first = f.first;
        second = into s f.back f.two f.second (subst (λ (b : A). Ok s b) (sym same) o);
        value = v;
      }

  pub run-out : (s : S) (x : List Token) (is : List (Pos × Option A)) → SeparatedRun mark first h next s x is → Rested s x is
  run-out s x [] e = record { others = []; end = None; rest = record { middle = []; back = []; split = e; further = refl; trailing = refl }; stand = tt; same = refl }
  run-out s x ((at, None) ∷ is) (y, z, e, c, g) =
      let all : x ≡ y = e ∙ ap (λ (w : List Token). y ++ w) g.0 ∙ append_none y in
      record {
        others = [];
        end = Some at;
        rest = record { middle = []; back = y; split = all; further = refl; trailing = alone-out mark (first s) (h s) y at c };
        stand = tt;
        same = ap (λ w. (at, None) ∷ w) g.1;
      }
  run-out s x ((at, Some a) ∷ is) (y, z, e, c, g) =
      let r = run-out (next a) z is g in
      let (f, o) = item-out s y at a (further-out mark (first s) (h s) y at a c) in
      record {
        others = (at, a) ∷ r.others;
        end = r.end;
        rest = record {
          middle = y ++ r.rest.middle;
          back = r.rest.back;
          split = e ∙ ap (λ (w : List Token). y ++ w) r.rest.split ∙ sym (append_assoc y r.rest.middle r.rest.back);
          further = (y, r.rest.middle, refl, f, r.rest.further);
          trailing = r.rest.trailing;
        };
        stand = (o, r.stand);
        same = ap (λ w. (at, Some a) ∷ w) r.same;
      }

  pub run-into : (s : S) (middle back : List Token) (others : List (Pos × A)) (end : Option Pos)
      → Many (Further mark P) middle others → Maybe (Word mark) back end → Stands Ok next s (values others) → SeparatedRun mark first h next s (middle ++ back) (commas others end)
  run-into s middle back [] None m b o = ap (λ (w : List Token). w ++ back) m ∙ b
  run-into s middle back [] (Some at) m b o =
      (back, [], ap (λ (w : List Token). w ++ back) m ∙ sym (append_none back), alone-into mark (first s) (h s) back at b, (refl, refl))
  run-into s middle back ((at, a) ∷ others) end (y, z, e, f, m) b o =
      (y, z ++ back, ap (λ (w : List Token). w ++ back) e ∙ append_assoc y z back, further-into mark (first s) (h s) y at a (item-into s y at a f o.0), run-into (next a) z back others end m b o.1)

  -- ---- a first item, and then separators

  pub record ListedIn (x : List Token) (a : A) (is : List (Pos × Option A)) : Type 0 where
    pub others : List (Pos × A)
    pub end : Option Pos
    pub listed : Listed mark P x a others end
    pub stand : Stands Ok next (next a) (values others)
    pub same : is ≡ commas others end

  pub list-out : (front back : List Token) (a : A) (is : List (Pos × Option A)) → P front a → SeparatedRun mark first h next (next a) back is → ListedIn (front ++ back) a is
  list-out front back a is p t =
      let r = run-out (next a) back is t in
      record {
        others = r.others;
        end = r.end;
        listed = record {
          front = front;
          middle = r.rest.middle;
          back = r.rest.back;
          split = ap (λ (w : List Token). front ++ w) r.rest.split;
          item = p;
          further = r.rest.further;
          trailing = r.rest.trailing;
        };
        stand = r.stand;
        same = r.same;
      }

-- ---- the same of phrases with commas

module _ {A S : Type 0} (first : S → List ℕ) (h : S → Phrase Token A) (P : List Token → A → Type 0) (Ok : S → A → Type 0) (next : A → S)
    (out : (s : S) (x : List Token) (a : A) → (h s).Spells x a → P x a × Ok s a) (into : (s : S) (x : List Token) (a : A) → P x a → Ok s a → (h s).Spells x a)
    (g : Phrase Token A) where
  abbrev Series : Phrase Token (A × List (Pos × Option A))
  Series = sequence g (λ b. comma_items first h next (next b)) both

  pub record ItemsIn (x : List Token) (as_many : List A) : Type 0 where
    pub first_item : A
    pub others : List (Pos × A)
    pub end : Option Pos
    pub listed : Listed kinds.Comma P x first_item others end
    pub stand : Stands Ok next (next first_item) (values others)
    pub all : as_many ≡ first_item ∷ values others

  pub items-in : ((x : List Token) (a : A) → g.Spells x a → P x a) → (x : List Token) (as_many : List A) → (mapped Series all_given).Spells x as_many → ItemsIn x as_many
  unfolding comma_items comma_item
  items-in item x as_many k =
      let m = mapped-out Series all_given x as_many k in
      let t = m.spelled in
      let l = list-out kinds.Comma first h P Ok next out into t.front t.back t.one t.two (item t.front t.one t.first) t.second in
      record {
        first_item = t.one;
        others = l.others;
        end = l.end;
        listed = subst (λ (w : List Token). Listed kinds.Comma P w t.one l.others l.end) (sym t.split) l.listed;
        stand = l.stand;
        all = m.value ∙ ap all_given t.value ∙ given-is t.one t.two l.others l.end l.same;
      }

  pub in-items : ((x : List Token) (a : A) → P x a → g.Spells x a) → (x : List Token) (as_many : List A) → ItemsIn x as_many → (mapped Series all_given).Spells x as_many
  unfolding comma_items comma_item
  in-items item x as_many i =
      let l = i.listed in
      let a = i.first_item in
      let spelled : Series.Spells x (a, commas i.others i.end) = record {
        front = l.front;
        back = l.middle ++ l.back;
        one = a;
        two = commas i.others i.end;
        split = l.split;
        first = item l.front a l.item;
        second = run-into kinds.Comma first h P Ok next out into (next a) l.middle l.back i.others i.end l.further l.trailing i.stand;
        value = refl;
      } in
      subst (λ w. (mapped Series all_given).Spells x w) (ap (λ w. a ∷ w) (commas-given i.others i.end) ∙ sym i.all) (mapped-in Series all_given x (a, commas i.others i.end) spelled)

-- ---- items in no states

module _ {A : Type 0} (first : List ℕ) (g : Phrase Token A) where
  abbrev FreeSeries : Phrase Token (A × List (Pos × Option A))
  FreeSeries = sequence g (λ b. comma_items (λ s. first) (λ s. g) (λ b. tt {0}) (tt {0})) both

  pub record FreeList (x : List Token) (a : A) (is : List (Pos × Option A)) : Type 0 where
    pub others : List (Pos × A)
    pub end : Option Pos
    pub listed : Listed kinds.Comma g.Spells x a others end
    pub same : is ≡ commas others end

  pub free-out : (x : List Token) (a : A) (is : List (Pos × Option A)) → FreeSeries.Spells x (a, is) → FreeList x a is
  unfolding comma_items comma_item
  free-out x a is t =
      let one : t.one ≡ a = sym (ap (λ (p : A × List (Pos × Option A)). p.0) t.value) in
      let two : is ≡ t.two = ap (λ (p : A × List (Pos × Option A)). p.1) t.value in
      let l = list-out kinds.Comma (λ (s : Unit {0}). first) (λ s. g) g.Spells Free (λ b. tt) (λ s y b k. (k, tt)) (λ s y b k o. k) t.front t.back t.one t.two t.first t.second in
      record {
        others = l.others;
        end = l.end;
        listed = subst (λ (b : A). Listed kinds.Comma g.Spells x b l.others l.end) one (subst (λ (w : List Token). Listed kinds.Comma g.Spells w t.one l.others l.end) (sym t.split) l.listed);
        same = two ∙ l.same;
      }

  pub free-into : (x : List Token) (a : A) (others : List (Pos × A)) (end : Option Pos) → Listed kinds.Comma g.Spells x a others end → FreeSeries.Spells x (a, commas others end)
  unfolding comma_items comma_item
  free-into x a others end l = record {
    front = l.front;
    back = l.middle ++ l.back;
    one = a;
    two = commas others end;
    split = l.split;
    first = l.item;
    second = run-into kinds.Comma (λ (s : Unit {0}). first) (λ s. g) g.Spells Free (λ b. tt) (λ s y b k. (k, tt)) (λ s y b k o. k) tt l.middle l.back others end l.further l.trailing (free-stand (values others));
    value = refl;
  }

  pub free-items-out : (x : List Token) (as_many : List A) → (mapped FreeSeries all_given).Spells x as_many → Items kinds.Comma g.Spells x as_many
  free-items-out x as_many k =
      let m = mapped-out FreeSeries all_given x as_many k in
      let l = free-out x m.from.0 m.from.1 m.spelled in
      record { first = m.from.0; others = l.others; end = l.end; listed = l.listed; all = m.value ∙ given-is m.from.0 m.from.1 l.others l.end l.same }

  pub free-items-into : (x : List Token) (as_many : List A) → Items kinds.Comma g.Spells x as_many → (mapped FreeSeries all_given).Spells x as_many
  free-items-into x as_many i =
      subst (λ w. (mapped FreeSeries all_given).Spells x w) (ap (λ w. i.first ∷ w) (commas-given i.others i.end) ∙ sym i.all)
      (mapped-in FreeSeries all_given x (i.first, commas i.others i.end) (free-into x i.first i.others i.end i.listed))
