-- Displays, parentheses and calls are those of the productions.
use Rattle.std.proofs.Common.{◌≡◌, ℕ, false, List, [], ◌∷◌, ◌++◌, Option, Some, None, ◌⊎◌, inl, inr, refl, sym, ap, subst, ◌∙◌}
use Rattle.phrases.specs.Phrases.{Phrase, token, nothing, sequence}
use Rattle.phrases.specs.Spelling.{Opener, Then}
use Rattle.phrases.proofs.Sets.{append_none}
use Rattle.py_literals.specs.declared.place.Pos.{Pos}
use Rattle.py_lexer.specs.declared.token.Kind.{Kind}
use Rattle.py_lexer.specs.declared.token.Kind.TheVariants as kinds
use Rattle.py_lexer.specs.declared.token.Token.{Token}
use Rattle.py_ast.specs.Kinds.{code, mark_of}
use Rattle.py_ast.specs.Trees.{leaf, all_given, optional_items, parenthesized_of, step_of}
use Rattle.py_ast.specs.Grammar.{both, second, expr_first, mapped, ended, bracketed, items, pair, pairs, list_at, list, dictionary_at, dictionary, parenthesized, parenthesized_at, argument_first, arguments, call_at, call, expr}
use Rattle.py_ast.specs.Statements.{all_of}
use Rattle.py_ast.specs.declared.tree.Argument.{Argument}
use Rattle.py_ast.specs.declared.tree.Expr.{Expr}
use Rattle.py_ast.specs.declared.tree.Step.{Step}
use Rattle.py_ast.specs.declared.tree.StepForm.TheVariants as steps
use Rattle.py_ast.specs.declared.tree.Form.TheVariants as forms
use Rattle.py_ast.specs.declared.tree.Pair.{Pair}
use Rattle.py_productions.specs.Rules.{Word, Items}
use Rattle.py_productions.specs.Parameters.{Arguments}
use Rattle.py_productions.specs.Displays.{Bracketed, bare, around, IsList, IsPair, IsDictionary, WithCommas, enclosed_tree, parentheses_tree, InParentheses, IsCall}
use Rattle.py_productions.proofs.Parts.{Mapped, mapped-out, mapped-in, past-out, past-into, ended-out, ended-into}
use Rattle.py_productions.proofs.Commas.{commas, commas-given, free-items-out, free-items-into}
use Rattle.py_productions.proofs.ExpressionLaws.{items-out, items-into}
use Rattle.py_productions.proofs.ParameterLaws.{arguments-out, arguments-into}
use Rattle.py_productions.proofs.NameLaws.{items-map}

module _ {A : Type 0} (room : ℕ) (left right : Kind) (first : List ℕ) (g : Phrase Token A) where
  abbrev Closing : Phrase Token (Option A)
  Closing = sequence (token (mark_of (code right))) (λ c. nothing None) second

  abbrev Filling : Phrase Token (Option A)
  Filling = mapped (ended g (code right)) Some

  -- the brackets, and what is between them
  abbrev Between : List Token → Pos × Option A → Type 0
  Between = Then (Opener room (mark_of (code left))) (λ m y o. Filling.Spells y o ⊎ Closing.Spells y o) both

  between-out : (x : List Token) (at : Pos) (o : Option A) → Between x (at, o) → Bracketed room left right g.Spells x at o
  between-out x at o h = by h.second
    where
      place : h.one ≡ at
      place = sym (ap (λ (p : Pos × Option A). p.0) h.value)

      two : o ≡ h.two
      two = ap (λ (p : Pos × Option A). p.1) h.value

      opens : Opener room (mark_of (code left)) h.front at
      opens = subst (λ (k : Pos). Opener room (mark_of (code left)) h.front k) place h.first

      by : Filling.Spells h.back h.two ⊎ Closing.Spells h.back h.two → Bracketed room left right g.Spells x at o
      by (inl k) =
          let m = mapped-out (ended g (code right)) Some h.back h.two k in
          let e = ended-out (code right) g h.back m.from m.spelled in
          around m.from (record { front = h.front; back = h.back; one = at; two = m.from; split = h.split; first = opens; second = e; value = refl }) (two ∙ m.value)
      by (inr k) =
          let all : h.back ≡ k.front = k.split ∙ ap (λ (w : List Token). k.front ++ w) k.second.0 ∙ append_none k.front in
          bare (record { front = h.front; back = h.back; one = at; two = k.one; split = h.split; first = opens; second = subst (λ (w : List Token). Word right w k.one) (sym all) k.first; value = refl })
          (two ∙ k.value ∙ k.second.1)

  between-into : (x : List Token) (at : Pos) (o : Option A) → Bracketed room left right g.Spells x at o → Between x (at, o)
  between-into x at o (bare h n) =
      let c : Closing.Spells h.back None = record { front = h.back; back = []; one = h.two; two = None; split = sym (append_none h.back); first = h.second; second = (refl, refl); value = refl } in
      record { front = h.front; back = h.back; one = h.one; two = None; split = h.split; first = h.first; second = inr c; value = ap (λ (k : Option A). (at, k)) n ∙ ap (λ (k : Pos). (k, None)) h.value }
  between-into x at o (around a h n) =
      let f : Filling.Spells h.back (Some h.two) = mapped-in (ended g (code right)) Some h.back h.two (ended-into (code right) g h.back h.two h.second) in
      record { front = h.front; back = h.back; one = h.one; two = Some h.two; split = h.split; first = h.first; second = inl f; value = ap (λ (k : Option A). (at, k)) n ∙ ap (λ (p : Pos × A). (p.0, Some p.1)) h.value }

  pub bracket-out : (x : List Token) (at : Pos) (o : Option A) → (bracketed room (code left) (code right) first g).Spells x (at, o) → Bracketed room left right g.Spells x at o
  unfolding bracketed
  bracket-out x at o h = between-out x at o h

  pub bracket-into : (x : List Token) (at : Pos) (o : Option A) → Bracketed room left right g.Spells x at o → (bracketed room (code left) (code right) first g).Spells x (at, o)
  unfolding bracketed
  bracket-into x at o h = between-into x at o h

-- ---- items between brackets

module _ {A : Type 0} (room : ℕ) (left right : Kind) (first : List ℕ) (g : Phrase Token (A × List (Pos × Option A))) (P : List Token → List A → Type 0)
    (out : (x : List Token) (as_many : List A) → (mapped g all_given).Spells x as_many → P x as_many) (into : (x : List Token) (as_many : List A) → P x as_many → (mapped g all_given).Spells x as_many) where
  abbrev Given : Type 0
  Given = A × List (Pos × Option A)

  pub record Listing (x : List Token) (at : Pos) (as_many : List A) : Type 0 where
    pub inside : Option (List A)
    pub spelled : Bracketed room left right P x at inside
    pub all : as_many ≡ all_of inside

  pub listing-out : (x : List Token) (at : Pos) (o : Option Given) → (bracketed room (code left) (code right) first g).Spells x (at, o) → Listing x at (optional_items o)
  listing-out x at o h = by (bracket-out room left right first g x at o h)
    where
      by : Bracketed room left right g.Spells x at o → Listing x at (optional_items o)
      by (bare k n) = record { inside = None; spelled = bare k refl; all = ap optional_items n }
      by (around a k n) =
          let s = k.second in
          record {
            inside = Some (all_given a);
            spelled = around (all_given a) (record {
              front = k.front;
              back = k.back;
              one = k.one;
              two = all_given k.two;
              split = k.split;
              first = k.first;
              second = record { front = s.front; back = s.back; one = all_given s.one; two = s.two; split = s.split; first = out s.front (all_given s.one) (mapped-in g all_given s.front s.one s.first); second = s.second; value = ap all_given s.value };
              value = ap (λ (p : Pos × Given). (p.0, all_given p.1)) k.value;
            }) refl;
            all = ap optional_items n;
          }

  pub record Placed (x : List Token) (at : Pos) (as_many : List A) : Type 0 where
    pub from : Option Given
    pub spelled : (bracketed room (code left) (code right) first g).Spells x (at, from)
    pub same : as_many ≡ optional_items from

  pub listing-into : (x : List Token) (at : Pos) (o : Option (List A)) → Bracketed room left right P x at o → Placed x at (all_of o)
  listing-into x at o (bare h n) = record { from = None; spelled = bracket-into room left right first g x at None (bare h refl); same = ap all_of n }
  listing-into x at o (around a h n) =
      let k = h.second in
      let m = mapped-out g all_given k.front k.one (into k.front k.one k.first) in
      let place : at ≡ h.one = ap (λ (p : Pos × List A). p.0) h.value in
      let same : a ≡ h.two = ap (λ (p : Pos × List A). p.1) h.value in
      record {
        from = Some m.from;
        spelled = bracket-into room left right first g x at (Some m.from) (around m.from (record {
          front = h.front;
          back = h.back;
          one = h.one;
          two = m.from;
          split = h.split;
          first = h.first;
          second = record { front = k.front; back = k.back; one = m.from; two = k.two; split = k.split; first = m.spelled; second = k.second; value = refl };
          value = ap (λ (p : Pos). (p, m.from)) place;
        }) refl);
        same = ap all_of n ∙ same ∙ k.value ∙ m.value;
      }

-- ---- lists and dictionaries

module _ (room : ℕ) (e : Phrase Token Expr) where
  items-all : (x : List Token) (es : List Expr) → (mapped (items e) all_given).Spells x es → Items kinds.Comma e.Spells x es
  unfolding items
  items-all x es h = free-items-out expr_first e x es h

  all-items : (x : List Token) (es : List Expr) → Items kinds.Comma e.Spells x es → (mapped (items e) all_given).Spells x es
  unfolding items
  all-items x es h = free-items-into expr_first e x es h

  pub list-out : (x : List Token) (t : Expr) → (list room e).Spells x t → IsList room e.Spells x t
  unfolding list
  list-out x t h =
      let m = mapped-out (bracketed room (code kinds.LeftBracket) (code kinds.RightBracket) expr_first (items e)) list_at x t h in
      let l = listing-out room kinds.LeftBracket kinds.RightBracket expr_first (items e) (Items kinds.Comma e.Spells) items-all all-items x m.from.0 m.from.1 m.spelled in
      record { at = m.from.0; inside = l.inside; spelled = l.spelled; tree = m.value ∙ ap (λ (k : List Expr). leaf m.from.0 (forms.List k)) l.all }

  pub list-into : (x : List Token) (t : Expr) → IsList room e.Spells x t → (list room e).Spells x t
  unfolding list
  list-into x t h =
      let p = listing-into room kinds.LeftBracket kinds.RightBracket expr_first (items e) (Items kinds.Comma e.Spells) items-all all-items x h.at h.inside h.spelled in
      subst (λ (k : Expr). (mapped (bracketed room (code kinds.LeftBracket) (code kinds.RightBracket) expr_first (items e)) list_at).Spells x k)
      (ap (λ (k : List Expr). leaf h.at (forms.List k)) (sym p.same) ∙ sym h.tree)
      (mapped-in (bracketed room (code kinds.LeftBracket) (code kinds.RightBracket) expr_first (items e)) list_at x (h.at, p.from) p.spelled)

  pair-out : (x : List Token) (p : Pair) → (pair e).Spells x p → IsPair e.Spells x p
  unfolding pair
  pair-out x p h = record { front = h.front; back = h.back; one = h.one; two = h.two; split = h.split; first = h.first; second = past-out (code kinds.Colon) e h.back h.two h.second; value = h.value }

  pair-into : (x : List Token) (p : Pair) → IsPair e.Spells x p → (pair e).Spells x p
  unfolding pair
  pair-into x p h = record { front = h.front; back = h.back; one = h.one; two = h.two; split = h.split; first = h.first; second = past-into (code kinds.Colon) e h.back h.two h.second; value = h.value }

  pairs-all : (x : List Token) (ps : List Pair) → (mapped (pairs e) all_given).Spells x ps → Items kinds.Comma (IsPair e.Spells) x ps
  unfolding pairs
  pairs-all x ps h = items-map kinds.Comma (pair e).Spells (IsPair e.Spells) pair-out x ps (free-items-out expr_first (pair e) x ps h)

  all-pairs : (x : List Token) (ps : List Pair) → Items kinds.Comma (IsPair e.Spells) x ps → (mapped (pairs e) all_given).Spells x ps
  unfolding pairs
  all-pairs x ps h = free-items-into expr_first (pair e) x ps (items-map kinds.Comma (IsPair e.Spells) (pair e).Spells pair-into x ps h)

  pub dictionary-out : (x : List Token) (t : Expr) → (dictionary room e).Spells x t → IsDictionary room e.Spells x t
  unfolding dictionary
  dictionary-out x t h =
      let m = mapped-out (bracketed room (code kinds.LeftBrace) (code kinds.RightBrace) expr_first (pairs e)) dictionary_at x t h in
      let l = listing-out room kinds.LeftBrace kinds.RightBrace expr_first (pairs e) (Items kinds.Comma (IsPair e.Spells)) pairs-all all-pairs x m.from.0 m.from.1 m.spelled in
      record { at = m.from.0; inside = l.inside; spelled = l.spelled; tree = m.value ∙ ap (λ (k : List Pair). leaf m.from.0 (forms.Dictionary k)) l.all }

  pub dictionary-into : (x : List Token) (t : Expr) → IsDictionary room e.Spells x t → (dictionary room e).Spells x t
  unfolding dictionary
  dictionary-into x t h =
      let p = listing-into room kinds.LeftBrace kinds.RightBrace expr_first (pairs e) (Items kinds.Comma (IsPair e.Spells)) pairs-all all-pairs x h.at h.inside h.spelled in
      subst (λ (k : Expr). (mapped (bracketed room (code kinds.LeftBrace) (code kinds.RightBrace) expr_first (pairs e)) dictionary_at).Spells x k)
      (ap (λ (k : List Pair). leaf h.at (forms.Dictionary k)) (sym p.same) ∙ sym h.tree)
      (mapped-in (bracketed room (code kinds.LeftBrace) (code kinds.RightBrace) expr_first (pairs e)) dictionary_at x (h.at, p.from) p.spelled)

-- ---- parentheses

module _ (room : ℕ) (e : Phrase Token Expr) where
  abbrev Held : Type 0
  Held = Expr × List (Pos × Expr) × Option Pos

  abbrev Wrapped : Phrase Token (Pos × Option (Expr × List (Pos × Option Expr)))
  Wrapped = bracketed room (code kinds.LeftParen) (code kinds.RightParen) expr_first (items e)

  tree-is : (at : Pos) (f : Expr) (others : List (Pos × Expr)) (end : Option Pos) → parenthesized_of at (Some (f, commas others end)) ≡ enclosed_tree at f others end
  tree-is at f [] None = refl
  tree-is at f [] (Some comma) = refl
  tree-is at f ((comma, g) ∷ others) end = ap (λ (k : List Expr). leaf at (forms.Tuple (f ∷ g ∷ k))) (commas-given others end)

  pub parentheses-out : (x : List Token) (t : Expr) → (parenthesized room e).Spells x t → InParentheses room e.Spells x t
  unfolding parenthesized
  parentheses-out x t h = by m.from m.spelled m.value
    where
      m : Mapped Wrapped.Spells parenthesized_at x t
      m = mapped-out Wrapped parenthesized_at x t h

      inner : (at : Pos) (o : Option (Expr × List (Pos × Option Expr))) → t ≡ parenthesized_of at o → Bracketed room kinds.LeftParen kinds.RightParen (items e).Spells x at o → InParentheses room e.Spells x t
      inner at o v (bare k n) = record { at = at; inside = None; spelled = bare k refl; tree = v ∙ ap (parenthesized_of at) n }
      inner at o v (around a k n) =
          let s = k.second in
          let l = items-out e s.front s.one.0 s.one.1 s.first in
          let same : a ≡ s.one = ap (λ (p : Pos × (Expr × List (Pos × Option Expr))). p.1) k.value ∙ s.value in
          let list : Held = (s.one.0, l.others, l.end) in
          record {
            at = at;
            inside = Some list;
            spelled = around list (record {
              front = k.front;
              back = k.back;
              one = k.one;
              two = list;
              split = k.split;
              first = k.first;
              second = record { front = s.front; back = s.back; one = list; two = s.two; split = s.split; first = l.listed; second = s.second; value = refl };
              value = ap (λ (p : Pos × (Expr × List (Pos × Option Expr))). (p.0, list)) k.value;
            }) refl;
            tree = v ∙ ap (parenthesized_of at) (n ∙ ap Some same) ∙ ap (λ (w : List (Pos × Option Expr)). parenthesized_of at (Some (s.one.0, w))) l.same ∙ tree-is at s.one.0 l.others l.end;
          }

      by : (from : Pos × Option (Expr × List (Pos × Option Expr))) → Wrapped.Spells x from → t ≡ parenthesized_at from → InParentheses room e.Spells x t
      by (at, o) b v = inner at o v (bracket-out room kinds.LeftParen kinds.RightParen expr_first (items e) x at o b)

  abbrev undo : Option Held → Option (Expr × List (Pos × Option Expr))
  undo None = None
  undo (Some list) = Some (list.0, commas list.1 list.2)

  undone : (at : Pos) (o : Option Held) → parenthesized_of at (undo o) ≡ parentheses_tree at o
  undone at None = refl
  undone at (Some list) = tree-is at list.0 list.1 list.2

  unlisted : (x : List Token) (at : Pos) (o : Option Held) → Bracketed room kinds.LeftParen kinds.RightParen (WithCommas e.Spells) x at o → Bracketed room kinds.LeftParen kinds.RightParen (items e).Spells x at (undo o)
  unlisted x at o (bare k n) = bare k (ap undo n)
  unlisted x at o (around a k n) =
      let s = k.second in
      let same : a ≡ s.one = ap (λ (p : Pos × Held). p.1) k.value ∙ s.value in
      let given : Expr × List (Pos × Option Expr) = (s.one.0, commas s.one.1 s.one.2) in
      around given (record {
        front = k.front;
        back = k.back;
        one = k.one;
        two = given;
        split = k.split;
        first = k.first;
        second = record { front = s.front; back = s.back; one = given; two = s.two; split = s.split; first = items-into e s.front s.one.0 s.one.1 s.one.2 s.first; second = s.second; value = refl };
        value = ap (λ (p : Pos × Held). (p.0, given)) k.value;
      }) (ap undo n ∙ ap (λ (w : Held). Some (w.0, commas w.1 w.2)) same)

  pub parentheses-into : (x : List Token) (t : Expr) → InParentheses room e.Spells x t → (parenthesized room e).Spells x t
  unfolding parenthesized
  parentheses-into x t h =
      let b = bracket-into room kinds.LeftParen kinds.RightParen expr_first (items e) x h.at (undo h.inside) (unlisted x h.at h.inside h.spelled) in
      subst (λ (k : Expr). (mapped Wrapped parenthesized_at).Spells x k) (undone h.at h.inside ∙ sym h.tree) (mapped-in Wrapped parenthesized_at x (h.at, undo h.inside) b)

-- ---- calls

module _ (room inner : ℕ) where
  abbrev Called : Phrase Token (Pos × Option (Argument × List (Pos × Option Argument)))
  Called = bracketed room (code kinds.LeftParen) (code kinds.RightParen) (argument_first false) (arguments (expr inner))

  pub call-out : (x : List Token) (s : Step) → (call room (expr inner)).Spells x s → IsCall room (expr inner).Spells x s
  unfolding call
  call-out x s h =
      let m = mapped-out Called call_at x s h in
      let l = listing-out room kinds.LeftParen kinds.RightParen (argument_first false) (arguments (expr inner)) (Arguments (expr inner).Spells) (arguments-out inner) (arguments-into inner) x m.from.0 m.from.1 m.spelled in
      record { at = m.from.0; inside = l.inside; spelled = l.spelled; tree = m.value ∙ ap (λ (k : List Argument). step_of m.from.0 (steps.Call k)) l.all }

  pub call-into : (x : List Token) (s : Step) → IsCall room (expr inner).Spells x s → (call room (expr inner)).Spells x s
  unfolding call
  call-into x s h =
      let p = listing-into room kinds.LeftParen kinds.RightParen (argument_first false) (arguments (expr inner)) (Arguments (expr inner).Spells) (arguments-out inner) (arguments-into inner) x h.at h.inside h.spelled in
      subst (λ (k : Step). (mapped Called call_at).Spells x k) (ap (λ (k : List Argument). step_of h.at (steps.Call k)) (sym p.same) ∙ sym h.tree) (mapped-in Called call_at x (h.at, p.from) p.spelled)
