-- What the parts of phrases spell.
use Rattle.std.proofs.Common.{◌≡◌, ℕ, List, [], ◌∷◌, ◌++◌, Option, Some, None, inl, inr, refl, sym, ap, subst, ◌∙◌}
use Rattle.phrases.specs.Phrases.{Phrase}
use Rattle.phrases.specs.Spelling.{One, Then, Many}
use Rattle.phrases.proofs.Sets.{append_none}
use Rattle.py_lexer.specs.declared.token.Token.{Token}
use Rattle.py_ast.specs.Kinds.{mark_of}
use Rattle.py_ast.specs.Grammar.{mapped, past, ended, second, first_of}
use Rattle.py_ast.specs.Statements.{optional}
use Rattle.py_productions.specs.Rules.{Row, Maybe}

-- the same tokens, and another value of them
pub record Mapped {A B : Type 0} (P : List Token → A → Type 0) (f : A → B) (x : List Token) (b : B) : Type 0 where
  pub from : A
  pub spelled : P x from
  pub value : b ≡ f from

pub mapped-out : {A B : Type 0} (g : Phrase Token A) (f : A → B) (x : List Token) (b : B) → (mapped g f).Spells x b → Mapped g.Spells f x b
unfolding mapped
mapped-out g f x b h =
    let (e, n) = h.second in
    let same : x ≡ h.front = h.split ∙ ap (λ (k : List Token). h.front ++ k) e ∙ append_none h.front in
    record { from = h.one; spelled = subst (λ (k : List Token). g.Spells k h.one) (sym same) h.first; value = h.value ∙ ap f n }

pub mapped-in : {A B : Type 0} (g : Phrase Token A) (f : A → B) (x : List Token) (a : A) → g.Spells x a → (mapped g f).Spells x (f a)
unfolding mapped
mapped-in g f x a h = record { front = x; back = []; one = a; two = a; split = sym (append_none x); first = h; second = (refl, refl); value = refl }

pub optional-out : {A : Type 0} (first : List ℕ) (g : Phrase Token A) (x : List Token) (o : Option A) → (optional first g).Spells x o → Maybe g.Spells x o
unfolding optional
optional-out first g x o (inl h) = let m = mapped-out g Some x o h in subst (λ (k : Option _). Maybe g.Spells x k) (sym m.value) m.spelled
optional-out first g x o (inr (e, n)) = subst (λ (k : Option _). Maybe g.Spells x k) (sym n) e

pub optional-in : {A : Type 0} (first : List ℕ) (g : Phrase Token A) (x : List Token) (o : Option A) → Maybe g.Spells x o → (optional first g).Spells x o
unfolding optional
optional-in first g x None h = inr (h, refl)
optional-in first g x (Some a) h = inl (mapped-in g Some x a h)

module _ {A : Type 0} (close : ℕ) (g : Phrase Token A) where
  pub ended-out : (x : List Token) (a : A) → (ended g close).Spells x a → Then g.Spells (λ b. One (mark_of close)) first_of x a
  unfolding ended
  ended-out x a h = h

  pub ended-into : (x : List Token) (a : A) → Then g.Spells (λ b. One (mark_of close)) first_of x a → (ended g close).Spells x a
  unfolding ended
  ended-into x a h = h

module _ {A : Type 0} (open_by : ℕ) (g : Phrase Token A) where
  pub past-out : (x : List Token) (a : A) → (past open_by g).Spells x a → Then (One (mark_of open_by)) (λ b. g.Spells) second x a
  unfolding past
  past-out x a h = h

  pub past-into : (x : List Token) (a : A) → Then (One (mark_of open_by)) (λ b. g.Spells) second x a → (past open_by g).Spells x a
  unfolding past
  past-into x a h = h

-- [k g]
module _ {A : Type 0} (open_by : ℕ) (g : Phrase Token A) where
  pub maybe-out : (x : List Token) (o : Option A) → Maybe (past open_by g).Spells x o → Maybe (Then (One (mark_of open_by)) (λ b. g.Spells) second) x o
  maybe-out x None h = h
  maybe-out x (Some a) h = past-out open_by g x a h

  pub maybe-into : (x : List Token) (o : Option A) → Maybe (Then (One (mark_of open_by)) (λ b. g.Spells) second) x o → Maybe (past open_by g).Spells x o
  maybe-into x None h = h
  maybe-into x (Some a) h = past-into open_by g x a h

-- one rule for another

module _ {A : Type 0} (P Q : List Token → A → Type 0) (f : (x : List Token) (a : A) → P x a → Q x a) where
  pub many-map : (x : List Token) (items : List A) → Many P x items → Many Q x items
  many-map x [] h = h
  many-map x (a ∷ items) (y, z, e, p, m) = (y, z, e, f y a p, many-map z items m)

  pub maybe-map : (x : List Token) (o : Option A) → Maybe P x o → Maybe Q x o
  maybe-map x None h = h
  maybe-map x (Some a) h = f x a h

module _ {A B C : Type 0} (P P' : List Token → A → Type 0) (Q Q' : List Token → B → Type 0) (g : A → B → C) (f : (x : List Token) (a : A) → P x a → P' x a) (h : (x : List Token) (b : B) → Q x b → Q' x b) where
  pub row-map : (x : List Token) (c : C) → Row P Q g x c → Row P' Q' g x c
  row-map x c r = record { front = r.front; back = r.back; one = r.one; two = r.two; split = r.split; first = f r.front r.one r.first; second = h r.back r.two r.second; value = r.value }
