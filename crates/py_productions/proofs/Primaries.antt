-- Atoms and chains: what their trees say of their tokens.
use Rattle.std.proofs.Common.{◌≡◌, ℕ, Bool, List, [], ◌∷◌, ◌++◌, Option, Some, None, ◌⊎◌, inl, inr, refl, sym, ap, subst, ◌∙◌, append_assoc}
use Rattle.phrases.specs.Phrases.{Phrase}
use Rattle.phrases.specs.Series.{Run}
use Rattle.phrases.specs.Spelling.{One, Opener, Then}
use Rattle.phrases.proofs.Sets.{append_none}
use Rattle.py_literals.specs.declared.place.Pos.{Pos}
use Rattle.py_lexer.specs.declared.token.Kind.TheVariants as kinds
use Rattle.py_lexer.specs.declared.token.Token.{Token}
use Rattle.py_ast.specs.Kinds.{code, mark_of}
use Rattle.py_ast.specs.Tokens.{leaf_of}
use Rattle.py_ast.specs.Trees.{leaf, given, joined_form, plain_text, parts_of, optional_items, callable_step, open_step, is_callee, postfix_of, parenthesized_of}
use Rattle.py_ast.specs.Grammar.{second, expr_first, mapped, ended, bracketed, items, pairs, strings, parenthesized_at, parenthesized, list_at, list, dictionary_at, dictionary, atom, step, step_next, chain, primary}
use Rattle.py_ast.specs.Statements.{form_target, step_target, chain_target, target_of}
use Rattle.py_ast.specs.Files.{name_expr}
use Rattle.py_ast.specs.declared.tree.Expr.{Expr}
use Rattle.py_ast.specs.declared.tree.Form.{Form, out-Form}
use Rattle.py_ast.specs.declared.tree.Form.TheVariants as forms
use Rattle.py_ast.specs.declared.tree.NameAt.{NameAt}
use Rattle.py_ast.specs.declared.tree.Piece.{Piece}
use Rattle.py_ast.specs.declared.tree.Step.{Step}
use Rattle.py_ast.specs.declared.statement.Target.{Target}
use Rattle.py_ast.specs.declared.statement.Target.TheVariants as targets
use Rattle.py_productions.specs.Rules.{Word}
use Rattle.py_productions.specs.Targets.{Operand, lengthened, with_step, IsName}
use Rattle.py_productions.proofs.Parts.{Mapped, mapped-out, mapped-in, ended-out, ended-into}
use Rattle.py_productions.proofs.Opened.{open-name, open-text, open-formatted, open-tuple, open-list, open-dictionary, open-postfix}
use Rattle.py_productions.proofs.Leaves.{IsPlain, LeafIs, a_name, no_target, leaf-out, leaf-has, leaf-operand, operand-leaf}

-- ---- atoms

-- several items in parentheses
pub record Several (room : ℕ) (e : Phrase Token Expr) (x : List Token) (t : Expr) : Type 0 where
  pub at : Pos
  pub first : Expr
  pub comma : Pos × Option Expr
  pub others : List (Pos × Option Expr)
  pub front : List Token
  pub middle : List Token
  pub back : List Token
  pub end : Pos
  pub split : x ≡ front ++ (middle ++ back)
  pub opens : Opener room (mark_of (code kinds.LeftParen)) front at
  pub spelled : (items e).Spells middle (first, comma ∷ others)
  pub closes : Word kinds.RightParen back end
  pub tree : t ≡ parenthesized_of at (Some (first, comma ∷ others))

-- what an atom may be, for one who assigns to it
pub data AtomIs (room : ℕ) (e : Phrase Token Expr) (x : List Token) (t : Expr) : Type 0 where
  name : IsName x t → AtomIs room e x t
  several : Several room e x t → AtomIs room e x t
  no_atom_target : target_of t ≡ targets.Nothing → AtomIs room e x t

-- what is between brackets
pub record Bracketed {A : Type 0} (room left right : ℕ) (P : List Token → A → Type 0) (x : List Token) (at : Pos) (a : A) : Type 0 where
  pub front : List Token
  pub middle : List Token
  pub back : List Token
  pub end : Pos
  pub split : x ≡ front ++ (middle ++ back)
  pub opens : Opener room (mark_of left) front at
  pub inside : P middle a
  pub closes : One (mark_of right) back end

module _ {A : Type 0} (room left right : ℕ) (g : Phrase Token A) where
  abbrev Closed : List Token → Option A → Type 0
  Closed = Then (One (mark_of right)) (λ (c : Pos) (y : List Token) (o : Option A). (y ≡ []) × (o ≡ None)) second

  pub bracketed-out : (first : List ℕ) (x : List Token) (at : Pos) (a : A) → (bracketed room left right first g).Spells x (at, Some a) → Bracketed room left right g.Spells x at a
  unfolding bracketed
  bracketed-out first x at a h = by h.second
    where
      two : Some a ≡ h.two
      two = ap (λ (p : Pos × Option A). p.1) h.value

      place : h.one ≡ at
      place = sym (ap (λ (p : Pos × Option A). p.0) h.value)

      whole : Mapped (ended g right).Spells Some h.back h.two → Bracketed room left right g.Spells x at a
      whole m =
          let s = ended-out right g h.back m.from m.spelled in
          let e = m.value in
          let t = two in
          let v = s.value in
          let from : m.from ≡ a = cc (e, t) in
          let same : s.one ≡ a = sym v ∙ from in
          record {
            front = h.front;
            middle = s.front;
            back = s.back;
            end = s.two;
            split = h.split ∙ ap (λ (k : List Token). h.front ++ k) s.split;
            opens = subst (λ (k : Pos). Opener room (mark_of left) h.front k) place h.first;
            inside = subst (λ (k : A). g.Spells s.front k) same s.first;
            closes = s.second;
          }

      by : (mapped (ended g right) Some).Spells h.back h.two ⊎ Closed h.back h.two → Bracketed room left right g.Spells x at a
      by (inl k) = whole (mapped-out (ended g right) Some h.back h.two k)
      by (inr k) = let v = k.value in let n = k.second.1 in let t = two in absurd (cc (v, n, t))

  pub bracketed-into : (first : List ℕ) (x : List Token) (at : Pos) (a : A) → Bracketed room left right g.Spells x at a → (bracketed room left right first g).Spells x (at, Some a)
  unfolding bracketed
  bracketed-into first x at a b = record {
    front = b.front;
    back = b.middle ++ b.back;
    one = at;
    two = Some a;
    split = b.split;
    first = b.opens;
    second = inl (mapped-in (ended g right) Some (b.middle ++ b.back) a (ended-into right g (b.middle ++ b.back) a (record { front = b.middle; back = b.back; one = a; two = b.end; split = refl; first = b.inside; second = b.closes; value = refl })));
    value = refl;
  }

plain-leaf : (at : Pos) (f : Form) → (with_leaf : (s : Step) → lengthened (leaf at f) s (out-Form f) ≡ postfix_of (leaf at f) (s ∷ [])) → (a : Expr) → a ≡ leaf at f → IsPlain a
plain-leaf at f h a e = subst IsPlain (sym e) h

module _ (room : ℕ) (e : Phrase Token Expr) where
  abbrev Atomic : List Token → Expr → Type 0
  Atomic x a = AtomIs room e x a × IsPlain a

  no-atomic : (x : List Token) (at : Pos) (f : Form) (a : Expr) → a ≡ leaf at f → form_target (out-Form f) ≡ targets.Nothing
      → ((s : Step) → lengthened (leaf at f) s (out-Form f) ≡ postfix_of (leaf at f) (s ∷ [])) → Atomic x a
  no-atomic x at f a h t p = (no_atom_target (ap target_of h ∙ t), plain-leaf at f p a h)

  leaf-atomic : (x : List Token) (a : Expr) → One leaf_of x a → Atomic x a
  leaf-atomic x a o = by (leaf-out o.token a o.is)
    where
      by : LeafIs o.token.kind o.token.value o.token.at a → Atomic x a
      by (a_name n k v t) = (
        name (record {
          name = record { name = n; at = o.token.at };
          spelled = record { token = o.token; alone = o.alone; is = leaf-operand o.token n (leaf-has o.token a o.is) k v };
          tree = t;
        }),
        plain-leaf o.token.at (forms.Name n) (λ s. ap (lengthened (leaf o.token.at (forms.Name n)) s) (open-name n)) a t,
      )
      by (no_target t p) = (no_atom_target t, p)

  text-atomic : (x : List Token) (at : Pos) (ps : List (Pos × Piece)) (o : Option (List ℕ)) (a : Expr) → a ≡ leaf at (joined_form ps o) → Atomic x a
  text-atomic x at ps (Some s) a h = no-atomic x at (forms.Text s) a h (ap form_target (open-text s)) (λ k. ap (lengthened (leaf at (forms.Text s)) k) (open-text s))
  text-atomic x at ps None a h =
      no-atomic x at (forms.Formatted (parts_of ps)) a h (ap form_target (open-formatted (parts_of ps))) (λ k. ap (lengthened (leaf at (forms.Formatted (parts_of ps))) k) (open-formatted (parts_of ps)))

  strings-atomic : (x : List Token) (a : Expr) → (strings room e).Spells x a → Atomic x a
  unfolding strings
  strings-atomic x a h = text-atomic x h.one.0 (h.one ∷ h.two) (plain_text (h.one ∷ h.two)) a h.value

  brackets-atomic : (x : List Token) (a : Expr) (from : Pos × Option (Expr × List (Pos × Option Expr)))
      → (bracketed room (code kinds.LeftParen) (code kinds.RightParen) expr_first (items e)).Spells x from → a ≡ parenthesized_at from → Atomic x a
  brackets-atomic x a (at, None) b h = no-atomic x at (forms.Tuple []) a h (ap form_target (open-tuple [])) (λ k. ap (lengthened (leaf at (forms.Tuple [])) k) (open-tuple []))
  brackets-atomic x a (at, Some (f, [])) b h = (no_atom_target (ap target_of h), subst IsPlain (sym h) (λ s. refl))
  brackets-atomic x a (at, Some (f, c ∷ is)) b h =
      let k = bracketed-out room (code kinds.LeftParen) (code kinds.RightParen) (items e) expr_first x at (f, c ∷ is) b in
      let all = f ∷ given (c ∷ is) in (
        several (record {
          at = at;
          first = f;
          comma = c;
          others = is;
          front = k.front;
          middle = k.middle;
          back = k.back;
          end = k.end;
          split = k.split;
          opens = k.opens;
          spelled = k.inside;
          closes = k.closes;
          tree = h;
        }),
        plain-leaf at (forms.Tuple all) (λ s. ap (lengthened (leaf at (forms.Tuple all)) s) (open-tuple all)) a h,
      )

  parenthesized-atomic : (x : List Token) (a : Expr) → (parenthesized room e).Spells x a → Atomic x a
  unfolding parenthesized
  parenthesized-atomic x a h = let m = mapped-out (bracketed room (code kinds.LeftParen) (code kinds.RightParen) expr_first (items e)) parenthesized_at x a h in brackets-atomic x a m.from m.spelled m.value

  list-atomic : (x : List Token) (a : Expr) → (list room e).Spells x a → Atomic x a
  unfolding list
  list-atomic x a h =
      let m = mapped-out (bracketed room (code kinds.LeftBracket) (code kinds.RightBracket) expr_first (items e)) list_at x a h in
      let is = optional_items m.from.1 in
      no-atomic x m.from.0 (forms.List is) a m.value (ap form_target (open-list is)) (λ s. ap (lengthened (leaf m.from.0 (forms.List is)) s) (open-list is))

  dictionary-atomic : (x : List Token) (a : Expr) → (dictionary room e).Spells x a → Atomic x a
  unfolding dictionary
  dictionary-atomic x a h =
      let m = mapped-out (bracketed room (code kinds.LeftBrace) (code kinds.RightBrace) expr_first (pairs e)) dictionary_at x a h in
      let is = optional_items m.from.1 in
      no-atomic x m.from.0 (forms.Dictionary is) a m.value (ap form_target (open-dictionary is)) (λ s. ap (lengthened (leaf m.from.0 (forms.Dictionary is)) s) (open-dictionary is))

  pub atom-out : (x : List Token) (a : Expr) → (atom room e).Spells x a → Atomic x a
  unfolding atom
  atom-out x a (inl h) = leaf-atomic x a h
  atom-out x a (inr (inl h)) = strings-atomic x a h
  atom-out x a (inr (inr (inl h))) = parenthesized-atomic x a h
  atom-out x a (inr (inr (inr (inl h)))) = list-atomic x a h
  atom-out x a (inr (inr (inr (inr h)))) = dictionary-atomic x a h

  pub name-atom : (x : List Token) (n : NameAt) → Operand x n → (atom room e).Spells x (name_expr n)
  unfolding atom
  name-atom x n o = inl (record { token = o.token; alone = o.alone; is = operand-leaf o.token n o.is })

  pub several-atom : (x : List Token) (a : Expr) → Several room e x a → (atom room e).Spells x a
  unfolding atom parenthesized
  several-atom x a s =
      let b = bracketed-into room (code kinds.LeftParen) (code kinds.RightParen) (items e) expr_first x s.at (s.first, s.comma ∷ s.others)
      (record { front = s.front; middle = s.middle; back = s.back; end = s.end; split = s.split; opens = s.opens; inside = s.spelled; closes = s.closes }) in
      let m = mapped-in (bracketed room (code kinds.LeftParen) (code kinds.RightParen) expr_first (items e)) parenthesized_at x (s.at, Some (s.first, s.comma ∷ s.others)) b in
      inr (inr (inl (subst (λ (k : Expr). (mapped (bracketed room (code kinds.LeftParen) (code kinds.RightParen) expr_first (items e)) parenthesized_at).Spells x k) (sym s.tree) m)))

-- ---- chains

abbrev pub Steps : ℕ → Phrase Token Expr → Bool → List Token → List Step → Type 0
Steps room e b x ss = Run (λ c. (step room e c).Spells) step_next b x ss

-- steps, and the last of them
pub record LastStep (room : ℕ) (e : Phrase Token Expr) (b : Bool) (x : List Token) (ss : List Step) : Type 0 where
  pub before : List Step
  pub last : Step
  pub front : List Token
  pub back : List Token
  pub callable : Bool
  pub split : x ≡ front ++ back
  pub steps_before : Steps room e b front before
  pub last_step : (step room e callable).Spells back last
  pub all : ss ≡ before ++ last ∷ []

module _ (room : ℕ) (e : Phrase Token Expr) where
  pub last-step : (b : Bool) (x : List Token) (s : Step) (ss : List Step) → Steps room e b x (s ∷ ss) → LastStep room e b x (s ∷ ss)
  last-step b x s [] (y, z, h, p, r) = record {
    before = [];
    last = s;
    front = [];
    back = y;
    callable = b;
    split = h ∙ ap (λ (k : List Token). y ++ k) r ∙ append_none y;
    steps_before = refl;
    last_step = p;
    all = refl;
  }
  last-step b x s (t ∷ ss) (y, z, h, p, r) =
      let l = last-step (callable_step (open_step s)) z t ss r in
      record {
        before = s ∷ l.before;
        last = l.last;
        front = y ++ l.front;
        back = l.back;
        callable = l.callable;
        split = h ∙ ap (λ (k : List Token). y ++ k) l.split ∙ sym (append_assoc y l.front l.back);
        steps_before = (y, l.front, refl, p, l.steps_before);
        last_step = l.last_step;
        all = ap (λ (k : List Step). s ∷ k) l.all;
      }

  one-more : (b : Bool) (x y : List Token) (ss : List Step) (s : Step) → Steps room e b x ss → ((c : Bool) → (step room e c).Spells y s) → Steps room e b (x ++ y) (ss ++ s ∷ [])
  one-more b x y [] s h p = (y, [], ap (λ (k : List Token). k ++ y) h ∙ sym (append_none y), p b, refl)
  one-more b x y (t ∷ ss) s (u, v, h, q, r) p =
      (u, v ++ y, ap (λ (k : List Token). k ++ y) h ∙ append_assoc u v y, q, one-more (callable_step (open_step t)) v y ss s r p)

pub with-step-is : (a : Expr) → IsPlain a → (ss : List Step) (s : Step) → with_step (postfix_of a ss) s ≡ postfix_of a (ss ++ s ∷ [])
with-step-is a p [] s = p s
with-step-is a p (t ∷ ss) s = ap (lengthened (postfix_of a (t ∷ ss)) s) (open-postfix a (t ∷ ss))

chain-last : (t : Target) (ss : List Step) (s : Step) → chain_target t (ss ++ s ∷ []) ≡ step_target (open_step s)
chain-last t [] s = refl
chain-last t (r ∷ ss) s = chain-last (step_target (open_step r)) ss s

postfix-target : (a : Expr) (s : Step) (ss : List Step) → target_of (postfix_of a (s ∷ ss)) ≡ chain_target targets.Nothing (s ∷ ss)
postfix-target a s ss = ap form_target (open-postfix a (s ∷ ss))

pub last-target : (a : Expr) (ss : List Step) (s : Step) → target_of (postfix_of a (ss ++ s ∷ [])) ≡ step_target (open_step s)
last-target a [] s = postfix-target a s []
last-target a (t ∷ ss) s = postfix-target a t (ss ++ s ∷ []) ∙ chain-last targets.Nothing (t ∷ ss) s

-- the target that one step more makes, behind what the chain spells
pub longer-target : (room : ℕ) (e : Phrase Token Expr) (x : List Token) (p : Expr) (s : Step) → (primary room e).Spells x p → target_of (with_step p s) ≡ step_target (open_step s)
unfolding primary
longer-target room e x p s h =
    let plain = (atom-out room e h.front h.one h.first).1 in
    ap (λ (k : Expr). target_of (with_step k s)) h.value ∙ ap target_of (with-step-is h.one plain h.two s) ∙ last-target h.one h.two s

pub longer-primary : (room : ℕ) (e : Phrase Token Expr) (x y : List Token) (p : Expr) (s : Step) → (primary room e).Spells x p → ((c : Bool) → (step room e c).Spells y s) → (primary room e).Spells (x ++ y) (with_step p s)
unfolding primary chain
longer-primary room e x y p s h k =
    let plain = (atom-out room e h.front h.one h.first).1 in
    record {
      front = h.front;
      back = h.back ++ y;
      one = h.one;
      two = h.two ++ s ∷ [];
      split = ap (λ (w : List Token). w ++ y) h.split ∙ append_assoc h.front h.back y;
      first = h.first;
      second = one-more room e (is_callee h.one) h.back y h.two s h.second k;
      value = ap (λ (w : Expr). with_step w s) h.value ∙ with-step-is h.one plain h.two s;
    }
