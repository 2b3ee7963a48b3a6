-- Statements that begin with expressions are those of the productions.
use Rattle.std.proofs.Common.{◌≡◌, ◌↔◌, ℕ, List, [], ◌∷◌, ◌++◌, Option, Some, None, ◌⊎◌, inl, inr, refl, sym, ap, subst, ◌∙◌}
use Rattle.phrases.specs.Phrases.{Phrase}
use Rattle.phrases.proofs.Sets.{append_none}
use Rattle.py_literals.specs.declared.place.Pos.{Pos}
use Rattle.py_lexer.specs.declared.token.Kind.TheVariants as kinds
use Rattle.py_lexer.specs.declared.token.Token.{Token}
use Rattle.py_ast.specs.Kinds.{code}
use Rattle.py_ast.specs.Grammar.{second, past, exprs, expr}
use Rattle.py_ast.specs.Statements.{target_of, annotated_of, augmented_of, assigned, annotated, augmented, tail, begun_stmt, begun}
use Rattle.py_ast.specs.declared.tree.Expr.{Expr}
use Rattle.py_ast.specs.declared.statement.AugmentOperator.{AugmentOperator}
use Rattle.py_ast.specs.declared.statement.Stmt.{Stmt}
use Rattle.py_ast.specs.declared.statement.Target.{Target as Kind}
use Rattle.py_ast.specs.declared.statement.Target.TheVariants as targets
use Rattle.py_ast.specs.declared.statement.Tail.{Tail}
use Rattle.py_ast.specs.declared.statement.Tail.TheVariants as tails
use Rattle.py_productions.specs.Rules.{Word, Row, Maybe}
use Rattle.py_productions.specs.Expressions.{Expression, Expressions}
use Rattle.py_productions.specs.Targets.{Annotable, plain_name, plain_attribute, Single, name, attribute, subscript, Target, single, names, enclosed}
use Rattle.py_productions.specs.Assignments.{Assigned, Annotated, Augmented, Begun, assignment, annotation, augmentation, expression}
use Rattle.py_productions.proofs.Parts.{optional-out, optional-in, past-out, past-into}
use Rattle.py_productions.proofs.ExpressionLaws.{exprs-out, exprs-into}
use Rattle.py_productions.proofs.TargetLaws.{What, name-known, attribute-known, subscript-known, names-known, enclosed-known, what-is, single-expressions, annotable-expressions, target-expressions}

module _ (room : ℕ) where
  abbrev e : Phrase Token Expr
  e = expr room

  -- ---- what follows a target

  pub record AssignedBy (x : List Token) (t : Tail) : Type 0 where
    pub value : Pos × Expr
    pub spelled : Assigned room x value
    pub same : t ≡ tails.Assigned value.0 value.1

  pub assigned-out : (x : List Token) (t : Tail) → (assigned e).Spells x t → AssignedBy x t
  unfolding assigned
  assigned-out x t h = record {
    value = (h.one, h.two);
    spelled = record { front = h.front; back = h.back; one = h.one; two = h.two; split = h.split; first = h.first; second = exprs-out e h.back h.two h.second; value = refl };
    same = h.value;
  }

  pub assigned-into : (x : List Token) (v : Pos × Expr) → Assigned room x v → (assigned e).Spells x (tails.Assigned v.0 v.1)
  unfolding assigned
  assigned-into x v h = record {
    front = h.front;
    back = h.back;
    one = h.one;
    two = h.two;
    split = h.split;
    first = h.first;
    second = exprs-into e h.back h.two h.second;
    value = ap (λ (p : Pos × Expr). tails.Assigned p.0 p.1) h.value;
  }

  pub record AugmentedBy (x : List Token) (t : Tail) : Type 0 where
    pub value : (AugmentOperator × Pos) × Expr
    pub spelled : Augmented room x value
    pub same : t ≡ augmented_of value.0 value.1

  augmented-out : (x : List Token) (t : Tail) → (augmented e).Spells x t → AugmentedBy x t
  unfolding augmented
  augmented-out x t h = record {
    value = (h.one, h.two);
    spelled = record { front = h.front; back = h.back; one = h.one; two = h.two; split = h.split; first = h.first; second = exprs-out e h.back h.two h.second; value = refl };
    same = h.value;
  }

  augmented-into : (x : List Token) (v : (AugmentOperator × Pos) × Expr) → Augmented room x v → (augmented e).Spells x (augmented_of v.0 v.1)
  unfolding augmented
  augmented-into x v h = record {
    front = h.front;
    back = h.back;
    one = h.one;
    two = h.two;
    split = h.split;
    first = h.first;
    second = exprs-into e h.back h.two h.second;
    value = ap (λ (p : (AugmentOperator × Pos) × Expr). augmented_of p.0 p.1) h.value;
  }

  -- "=" exprs, or nothing
  abbrev GivenValue : List Token → Option Expr → Type 0
  GivenValue = Maybe (Row (Word kinds.Equal) (Expressions (Expression room)) second)

  given-out : (x : List Token) (o : Option Expr) → Maybe (past (code kinds.Equal) (exprs e)).Spells x o → GivenValue x o
  given-out x None h = h
  given-out x (Some v) h =
      let k = past-out (code kinds.Equal) (exprs e) x v h in
      record { front = k.front; back = k.back; one = k.one; two = k.two; split = k.split; first = k.first; second = exprs-out e k.back k.two k.second; value = k.value }

  given-into : (x : List Token) (o : Option Expr) → GivenValue x o → Maybe (past (code kinds.Equal) (exprs e)).Spells x o
  given-into x None h = h
  given-into x (Some v) k =
      past-into (code kinds.Equal) (exprs e) x v (record { front = k.front; back = k.back; one = k.one; two = k.two; split = k.split; first = k.first; second = exprs-into e k.back k.two k.second; value = k.value })

  pub record AnnotatedBy (x : List Token) (t : Tail) : Type 0 where
    pub value : Pos × (Expr × Option Expr)
    pub spelled : Annotated room x value
    pub same : t ≡ annotated_of value.0 value.1

  pub annotated-out : (x : List Token) (t : Tail) → (annotated e).Spells x t → AnnotatedBy x t
  unfolding annotated
  annotated-out x t h =
      let k = h.second in
      record {
        value = (h.one, h.two);
        spelled = record {
          front = h.front;
          back = h.back;
          one = h.one;
          two = h.two;
          split = h.split;
          first = h.first;
          second = record {
            front = k.front;
            back = k.back;
            one = k.one;
            two = k.two;
            split = k.split;
            first = k.first;
            second = given-out k.back k.two (optional-out (code kinds.Equal ∷ []) (past (code kinds.Equal) (exprs e)) k.back k.two k.second);
            value = k.value;
          };
          value = refl;
        };
        same = h.value;
      }

  pub annotated-into : (x : List Token) (v : Pos × (Expr × Option Expr)) → Annotated room x v → (annotated e).Spells x (annotated_of v.0 v.1)
  unfolding annotated
  annotated-into x v h =
      let k = h.second in
      record {
        front = h.front;
        back = h.back;
        one = h.one;
        two = h.two;
        split = h.split;
        first = h.first;
        second = record {
          front = k.front;
          back = k.back;
          one = k.one;
          two = k.two;
          split = k.split;
          first = k.first;
          second = optional-in (code kinds.Equal ∷ []) (past (code kinds.Equal) (exprs e)) k.back k.two (given-into k.back k.two k.second);
          value = k.value;
        };
        value = ap (λ (p : Pos × (Expr × Option Expr)). annotated_of p.0 p.1) h.value;
      }

  -- ---- statements

  begun-alone : (x front back : List Token) (s : Stmt) (t : Expr) (l : Tail) → x ≡ front ++ back → s ≡ begun_stmt t l → Expressions (Expression room) front t → back ≡ [] → l ≡ tails.Alone → Begun room x s
  begun-alone x front back s t l h v w b n =
      let all : front ≡ x = sym (h ∙ ap (λ (k : List Token). front ++ k) b ∙ append_none front) in
      expression (record { expression = t; spelled = subst (λ (k : List Token). Expressions (Expression room) k t) all w; tree = v ∙ ap (begun_stmt t) n })

  begun-assigned : (x front back : List Token) (s : Stmt) (t : Expr) (l : Tail) → x ≡ front ++ back → s ≡ begun_stmt t l → Target room front t → (assigned e).Spells back l → Begun room x s
  begun-assigned x front back s t l h v w a =
      let b = assigned-out back l a in
      assignment (record { front = front; back = back; one = t; two = b.value; split = h; first = w; second = b.spelled; value = v ∙ ap (begun_stmt t) b.same })

  begun-augmented : (x front back : List Token) (s : Stmt) (t : Expr) (l : Tail) → x ≡ front ++ back → s ≡ begun_stmt t l → Single room front t → (augmented e).Spells back l → Begun room x s
  begun-augmented x front back s t l h v w a =
      let b = augmented-out back l a in
      augmentation (record { front = front; back = back; one = t; two = b.value; split = h; first = w; second = b.spelled; value = v ∙ ap (begun_stmt t) b.same })

  begun-annotated : (x front back : List Token) (s : Stmt) (t : Expr) (l : Tail) → x ≡ front ++ back → s ≡ begun_stmt t l → Annotable room front t → (annotated e).Spells back l → Begun room x s
  begun-annotated x front back s t l h v w a =
      let b = annotated-out back l a in
      annotation (record { front = front; back = back; one = t; two = b.value; split = h; first = w; second = b.spelled; value = v ∙ ap (begun_stmt t) b.same })

  names-target : (x : List Token) (t : Expr) → What room x t targets.Names → Target room x t
  names-target x t (inl n) = names n
  names-target x t (inr n) = enclosed n

  variable-single : (x : List Token) (t : Expr) → What room x t targets.Variable → Single room x t
  variable-single x t (inl n) = name n
  variable-single x t (inr a) = attribute a

  variable-annotable : (x : List Token) (t : Expr) → What room x t targets.Variable → Annotable room x t
  variable-annotable x t (inl n) = plain_name n
  variable-annotable x t (inr a) = plain_attribute a

  begun-by : (x front back : List Token) (s : Stmt) (t : Expr) (l : Tail) → x ≡ front ++ back → s ≡ begun_stmt t l → Expressions (Expression room) front t
      → (k : Kind) → What room front t k → (tail e k).Spells back l → Begun room x s
  unfolding tail
  begun-by x front back s t l h v a targets.Nothing w n = begun-alone x front back s t l h v a n.0 n.1
  begun-by x front back s t l h v a targets.Names w (inl k) = begun-assigned x front back s t l h v (names-target front t w) k
  begun-by x front back s t l h v a targets.Names w (inr n) = begun-alone x front back s t l h v a n.0 n.1
  begun-by x front back s t l h v a targets.Place w (inl k) = begun-assigned x front back s t l h v (single (subscript w)) k
  begun-by x front back s t l h v a targets.Place w (inr (inl k)) = begun-augmented x front back s t l h v (subscript w) k
  begun-by x front back s t l h v a targets.Place w (inr (inr n)) = begun-alone x front back s t l h v a n.0 n.1
  begun-by x front back s t l h v a targets.Variable w (inl k) = begun-assigned x front back s t l h v (single (variable-single front t w)) k
  begun-by x front back s t l h v a targets.Variable w (inr (inl k)) = begun-augmented x front back s t l h v (variable-single front t w) k
  begun-by x front back s t l h v a targets.Variable w (inr (inr (inl k))) = begun-annotated x front back s t l h v (variable-annotable front t w) k
  begun-by x front back s t l h v a targets.Variable w (inr (inr (inr n))) = begun-alone x front back s t l h v a n.0 n.1

  pub begun-out : (x : List Token) (s : Stmt) → (begun e).Spells x s → Begun room x s
  unfolding begun
  begun-out x s h =
      let a = exprs-out e h.front h.one h.first in
      begun-by x h.front h.back s h.one h.two h.split h.value a (target_of h.one) (what-is room h.front h.one a) h.second

  -- ---- and back

  tail-alone : (k : Kind) → (tail e k).Spells [] tails.Alone
  unfolding tail
  tail-alone targets.Nothing = (refl, refl)
  tail-alone targets.Names = inr (refl, refl)
  tail-alone targets.Place = inr (inr (refl, refl))
  tail-alone targets.Variable = inr (inr (inr (refl, refl)))

  tail-assigned : (k : Kind) (x : List Token) (l : Tail) → (k ≡ targets.Nothing → ⊥) → (assigned e).Spells x l → (tail e k).Spells x l
  unfolding tail
  tail-assigned targets.Nothing x l n h = absurd (n refl)
  tail-assigned targets.Names x l n h = inl h
  tail-assigned targets.Place x l n h = inl h
  tail-assigned targets.Variable x l n h = inl h

  single-kind : (x : List Token) (t : Expr) → Single room x t → (target_of t ≡ targets.Place) ⊎ (target_of t ≡ targets.Variable)
  single-kind x t (name n) = inr (name-known x t n)
  single-kind x t (attribute a) = inr (attribute-known room x t a)
  single-kind x t (subscript a) = inl (subscript-known room x t a)

  annotable-kind : (x : List Token) (t : Expr) → Annotable room x t → target_of t ≡ targets.Variable
  annotable-kind x t (plain_name n) = name-known x t n
  annotable-kind x t (plain_attribute a) = attribute-known room x t a

  target-some : (x : List Token) (t : Expr) → Target room x t → target_of t ≡ targets.Nothing → ⊥
  target-some x t (names n) h = let k = names-known x t n in cc (h, k)
  target-some x t (enclosed n) h = let k = enclosed-known room x t n in cc (h, k)
  target-some x t (single s) h = by (single-kind x t s)
    where
      by : (target_of t ≡ targets.Place) ⊎ (target_of t ≡ targets.Variable) → ⊥
      by (inl k) = cc (h, k)
      by (inr k) = cc (h, k)

  tail-augmented : (k : Kind) (x : List Token) (l : Tail) → (k ≡ targets.Place) ⊎ (k ≡ targets.Variable) → (augmented e).Spells x l → (tail e k).Spells x l
  unfolding tail
  tail-augmented targets.Nothing x l (inl n) h = absurd (cc n)
  tail-augmented targets.Nothing x l (inr n) h = absurd (cc n)
  tail-augmented targets.Names x l (inl n) h = absurd (cc n)
  tail-augmented targets.Names x l (inr n) h = absurd (cc n)
  tail-augmented targets.Place x l n h = inr (inl h)
  tail-augmented targets.Variable x l n h = inr (inl h)

  tail-annotated : (k : Kind) (x : List Token) (l : Tail) → k ≡ targets.Variable → (annotated e).Spells x l → (tail e k).Spells x l
  unfolding tail
  tail-annotated k x l n h = subst (λ (j : Kind). (tail e j).Spells x l) (sym n) (inr (inr (inl h)))

  pub begun-into : (x : List Token) (s : Stmt) → Begun room x s → (begun e).Spells x s
  unfolding begun
  begun-into x s (assignment r) = record {
    front = r.front;
    back = r.back;
    one = r.one;
    two = tails.Assigned r.two.0 r.two.1;
    split = r.split;
    first = exprs-into e r.front r.one (target-expressions room r.front r.one r.first);
    second = tail-assigned (target_of r.one) r.back (tails.Assigned r.two.0 r.two.1) (target-some r.front r.one r.first) (assigned-into r.back r.two r.second);
    value = r.value;
  }
  begun-into x s (annotation r) = record {
    front = r.front;
    back = r.back;
    one = r.one;
    two = annotated_of r.two.0 r.two.1;
    split = r.split;
    first = exprs-into e r.front r.one (annotable-expressions room r.front r.one r.first);
    second = tail-annotated (target_of r.one) r.back (annotated_of r.two.0 r.two.1) (annotable-kind r.front r.one r.first) (annotated-into r.back r.two r.second);
    value = r.value;
  }
  begun-into x s (augmentation r) = record {
    front = r.front;
    back = r.back;
    one = r.one;
    two = augmented_of r.two.0 r.two.1;
    split = r.split;
    first = exprs-into e r.front r.one (single-expressions room r.front r.one r.first);
    second = tail-augmented (target_of r.one) r.back (augmented_of r.two.0 r.two.1) (single-kind r.front r.one r.first) (augmented-into r.back r.two r.second);
    value = r.value;
  }
  begun-into x s (expression r) = record {
    front = x;
    back = [];
    one = r.expression;
    two = tails.Alone;
    split = sym (append_none x);
    first = exprs-into e x r.expression r.spelled;
    second = tail-alone (target_of r.expression);
    value = r.tree;
  }

pub begun-is : (room : ℕ) (x : List Token) (s : Stmt) → (begun (expr room)).Spells x s ↔ Begun room x s
begun-is room x s = (begun-out room x s, begun-into room x s)
