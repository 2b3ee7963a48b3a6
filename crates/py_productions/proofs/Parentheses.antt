-- What stands in parentheses that open no nesting.
use Rattle.std.proofs.Common.{◌≡◌, ℕ, List, [], ◌++◌, Option, Some, None, ◌⊎◌, inl, inr, refl, sym, ap, subst, ◌∙◌}
use Rattle.phrases.specs.Phrases.{Phrase, token, nothing, sequence, either}
use Rattle.phrases.specs.Spelling.{One, Then}
use Rattle.phrases.proofs.Sets.{append_none}
use Rattle.py_lexer.specs.declared.token.Kind.TheVariants as kinds
use Rattle.py_lexer.specs.declared.token.Token.{Token}
use Rattle.py_ast.specs.Kinds.{class, code, mark_of}
use Rattle.py_ast.specs.Grammar.{second, mapped, ended}
use Rattle.py_ast.specs.Statements.{in_parentheses}
use Rattle.py_productions.specs.Rules.{Word, Parenthesized, empty, filled}
use Rattle.py_productions.proofs.Parts.{mapped-out, mapped-in, past-out, past-into, ended-out, ended-into}

module _ {A : Type 0} (first : List ℕ) (g : Phrase Token A) (P : List Token → A → Type 0) where
  abbrev Closing : Phrase Token (Option A)
  Closing = sequence (token (mark_of (code kinds.RightParen))) (λ m. nothing None) second

  abbrev Filling : Phrase Token (Option A)
  Filling = mapped (ended g (code kinds.RightParen)) Some

  abbrev Inside : Phrase Token (Option A)
  Inside = either class first Filling Closing

  pub parenthesized-out : ((x : List Token) (a : A) → g.Spells x a → P x a) → (x : List Token) (o : Option A) → (in_parentheses first g).Spells x o → Parenthesized P x o
  unfolding in_parentheses
  parenthesized-out f x o h = by k.second
    where
      k : Then (One (mark_of (code kinds.LeftParen))) (λ b. Inside.Spells) second x o
      k = past-out (code kinds.LeftParen) Inside x o h

      by : Filling.Spells k.back k.two ⊎ Closing.Spells k.back k.two → Parenthesized P x o
      by (inl w) =
          let m = mapped-out (ended g (code kinds.RightParen)) Some k.back k.two w in
          let e = ended-out (code kinds.RightParen) g k.back m.from m.spelled in
          filled m.from (record {
            front = k.front;
            back = k.back;
            one = k.one;
            two = m.from;
            split = k.split;
            first = k.first;
            second = record { front = e.front; back = e.back; one = e.one; two = e.two; split = e.split; first = f e.front e.one e.first; second = e.second; value = e.value };
            value = refl;
          }) (k.value ∙ m.value)
      by (inr w) =
          let all : k.back ≡ w.front = w.split ∙ ap (λ (u : List Token). w.front ++ u) w.second.0 ∙ append_none w.front in
          empty k.one (record { front = k.front; back = k.back; one = k.one; two = w.one; split = k.split; first = k.first; second = subst (λ (u : List Token). Word kinds.RightParen u w.one) (sym all) w.first; value = refl })
          (k.value ∙ w.value ∙ w.second.1)

  pub parenthesized-into : ((x : List Token) (a : A) → P x a → g.Spells x a) → (x : List Token) (o : Option A) → Parenthesized P x o → (in_parentheses first g).Spells x o
  unfolding in_parentheses
  parenthesized-into f x o (empty at h n) =
      let c : Closing.Spells h.back None = record { front = h.back; back = []; one = h.two; two = None; split = sym (append_none h.back); first = h.second; second = (refl, refl); value = refl } in
      past-into (code kinds.LeftParen) Inside x o (record { front = h.front; back = h.back; one = h.one; two = None; split = h.split; first = h.first; second = inr c; value = n })
  parenthesized-into f x o (filled a h n) =
      let e = h.second in
      let w : Filling.Spells h.back (Some h.two) = mapped-in (ended g (code kinds.RightParen)) Some h.back h.two
      (ended-into (code kinds.RightParen) g h.back h.two (record { front = e.front; back = e.back; one = e.one; two = e.two; split = e.split; first = f e.front e.one e.first; second = e.second; value = e.value })) in
      past-into (code kinds.LeftParen) Inside x o (record { front = h.front; back = h.back; one = h.one; two = Some h.two; split = h.split; first = h.first; second = inl w; value = n ∙ ap Some h.value })
