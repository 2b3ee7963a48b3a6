-- What the tree of an expression says of its tokens, where it may be assigned to.
use Rattle.std.proofs.Common.{◌≡◌, ℕ, zero, suc, Bool, true, false, List, [], ◌∷◌, ◌++◌, Option, Some, None, ◌⊎◌, inl, inr, refl, sym, ap, subst, ◌∙◌, append_assoc}
use Rattle.phrases.specs.Phrases.{Phrase, token}
use Rattle.phrases.specs.Spelling.{Opener, Then, Many}
use Rattle.phrases.proofs.Sets.{append_none}
use Rattle.py_literals.specs.declared.place.Pos.{Pos}
use Rattle.py_lexer.specs.declared.token.Kind.TheVariants as kinds
use Rattle.py_lexer.specs.declared.token.Token.{Token}
use Rattle.py_ast.specs.Kinds.{code, mark_of}
use Rattle.py_ast.specs.Trees.{open_step, optional_items, is_callee, postfix_of, binary_of, comparison_of, and_of, or_of, power_of, conditional_of}
use Rattle.py_ast.specs.Grammar.{first_of, past, mapped, attribute_of, attribute, subscript_at, subscript, call_at, call, bracketed, arguments, argument_first, step, chain, primary, exponent, power, factor_over, level, binary, all_levels, comparison, inversion_over, conjunction, disjunction, choice, conditional, Whole, Inversion, Factor, inversion_in, expr_in, shape_over, nested, shaped, expr, exprs}
use Rattle.py_ast.specs.Statements.{form_target, step_target, target_of}
use Rattle.py_ast.specs.Tokens.{name_of, name_codes}
use Rattle.py_ast.specs.declared.tree.Expr.{Expr}
use Rattle.py_ast.specs.declared.tree.Step.{Step}
use Rattle.py_ast.specs.declared.statement.Target.TheVariants as targets
use Rattle.py_ast.proofs.Expressions.{alone}
use Rattle.py_productions.specs.Rules.{Word, Row}
use Rattle.py_productions.specs.Expressions.{Expressions}
use Rattle.py_productions.specs.Targets.{AnyName, with_step, attribute_step, IsName, IsAttribute, IsSubscript}
use Rattle.py_productions.proofs.Parts.{mapped-out, mapped-in, ended-out, ended-into}
use Rattle.py_productions.proofs.Opened.{open-conditional, open-or, open-and, open-not, open-comparison, open-binary, open-unary, open-power, open-attribute, open-subscript, open-call}
use Rattle.py_productions.proofs.ExpressionLaws.{exprs-out, exprs-into}
use Rattle.py_productions.proofs.Primaries.{Several, AtomIs, name, several, no_atom_target, atom-out, Steps, last-step, with-step-is, longer-target}

-- ---- steps

abbrev pub Attributed : List Token → Step → Type 0
Attributed = Row (Word kinds.Dot) AnyName attribute_step

abbrev pub Subscripted : ℕ → Phrase Token Expr → List Token → Step → Type 0
Subscripted room e = Row (Opener room (mark_of (code kinds.LeftBracket))) (Row (Expressions e.Spells) (Word kinds.RightBracket) first_of) subscript_at

pub attribute-out : (x : List Token) (s : Step) → attribute.Spells x s → Attributed x s
unfolding attribute past
attribute-out x s h =
    let m = mapped-out (past (code kinds.Dot) (token (name_of name_codes))) attribute_of x s h in
    let k = m.spelled in
    record { front = k.front; back = k.back; one = k.one; two = k.two; split = k.split; first = k.first; second = k.second; value = m.value ∙ ap attribute_of k.value }

pub attribute-into : (x : List Token) (s : Step) → Attributed x s → attribute.Spells x s
unfolding attribute past
attribute-into x s h =
    let k : (past (code kinds.Dot) (token (name_of name_codes))).Spells x h.two =
    record { front = h.front; back = h.back; one = h.one; two = h.two; split = h.split; first = h.first; second = h.second; value = refl } in
    let m = mapped-in (past (code kinds.Dot) (token (name_of name_codes))) attribute_of x h.two k in
    subst (λ (w : Step). (mapped (past (code kinds.Dot) (token (name_of name_codes))) attribute_of).Spells x w) (sym h.value) m

module _ (room : ℕ) (e : Phrase Token Expr) where
  pub subscript-out : (x : List Token) (s : Step) → (subscript room e).Spells x s → Subscripted room e x s
  unfolding subscript
  subscript-out x s h =
      let k = ended-out (code kinds.RightBracket) (exprs e) h.back h.two h.second in
      record {
        front = h.front;
        back = h.back;
        one = h.one;
        two = h.two;
        split = h.split;
        first = h.first;
        second = record { front = k.front; back = k.back; one = k.one; two = k.two; split = k.split; first = exprs-out e k.front k.one k.first; second = k.second; value = k.value };
        value = h.value;
      }

  pub subscript-into : (x : List Token) (s : Step) → Subscripted room e x s → (subscript room e).Spells x s
  unfolding subscript
  subscript-into x s h =
      let k = h.second in
      record {
        front = h.front;
        back = h.back;
        one = h.one;
        two = h.two;
        split = h.split;
        first = h.first;
        second = ended-into (code kinds.RightBracket) (exprs e) h.back h.two
            (record { front = k.front; back = k.back; one = k.one; two = k.two; split = k.split; first = exprs-into e k.front k.one k.first; second = k.second; value = k.value });
        value = h.value;
      }

-- what a step makes of a primary
pub data StepIs (room : ℕ) (e : Phrase Token Expr) (x : List Token) (s : Step) : Type 0 where
  by_attribute : Attributed x s → ((c : Bool) → (step room e c).Spells x s) → step_target (open_step s) ≡ targets.Variable → StepIs room e x s
  by_subscript : Subscripted room e x s → ((c : Bool) → (step room e c).Spells x s) → step_target (open_step s) ≡ targets.Place → StepIs room e x s
  by_call : step_target (open_step s) ≡ targets.Nothing → StepIs room e x s

pub attributed-target : (x : List Token) (s : Step) → Attributed x s → step_target (open_step s) ≡ targets.Variable
attributed-target x s h = ap (λ (k : Step). step_target (open_step k)) h.value ∙ ap step_target (open-attribute h.two.name)

module _ (room : ℕ) (e : Phrase Token Expr) where
  pub subscripted-target : (x : List Token) (s : Step) → Subscripted room e x s → step_target (open_step s) ≡ targets.Place
  subscripted-target x s h = ap (λ (k : Step). step_target (open_step k)) h.value ∙ ap step_target (open-subscript h.two)

  pub attributed-step : (x : List Token) (s : Step) → Attributed x s → (c : Bool) → (step room e c).Spells x s
  unfolding step
  attributed-step x s h false = inl (attribute-into x s h)
  attributed-step x s h true = inl (attribute-into x s h)

  pub subscripted-step : (x : List Token) (s : Step) → Subscripted room e x s → (c : Bool) → (step room e c).Spells x s
  unfolding step
  subscripted-step x s h false = inr (subscript-into room e x s h)
  subscripted-step x s h true = inr (inl (subscript-into room e x s h))

  attribute-is : (x : List Token) (s : Step) → attribute.Spells x s → StepIs room e x s
  attribute-is x s h = let k = attribute-out x s h in by_attribute k (attributed-step x s k) (attributed-target x s k)

  subscript-is : (x : List Token) (s : Step) → (subscript room e).Spells x s → StepIs room e x s
  subscript-is x s h = let k = subscript-out room e x s h in by_subscript k (subscripted-step x s k) (subscripted-target x s k)

  call-is : (x : List Token) (s : Step) → (call room e).Spells x s → StepIs room e x s
  unfolding call
  call-is x s h =
      let m = mapped-out (bracketed room (code kinds.LeftParen) (code kinds.RightParen) (argument_first false) (arguments e)) call_at x s h in
      by_call (ap (λ (k : Step). step_target (open_step k)) m.value ∙ ap step_target (open-call (optional_items m.from.1)))

  step-is : (c : Bool) (x : List Token) (s : Step) → (step room e c).Spells x s → StepIs room e x s
  unfolding step
  step-is false x s (inl h) = attribute-is x s h
  step-is false x s (inr h) = subscript-is x s h
  step-is true x s (inl h) = attribute-is x s h
  step-is true x s (inr (inl h)) = subscript-is x s h
  step-is true x s (inr (inr h)) = call-is x s h

-- ---- primaries

-- what an expression may be, for one who assigns to it
pub data Narrow (room : ℕ) (x : List Token) (t : Expr) : Type 0 where
  is_name : IsName x t → Narrow room x t
  is_attribute : IsAttribute room x t → Narrow room x t
  is_subscript : IsSubscript room x t → Narrow room x t
  is_several : Several room (nested room Whole) x t → Narrow room x t
  is_none : target_of t ≡ targets.Nothing → Narrow room x t

module _ (room : ℕ) where
  abbrev e : Phrase Token Expr
  e = nested room Whole

  atom-narrow : (x : List Token) (t : Expr) → AtomIs room e x t → Narrow room x t
  atom-narrow x t (name n) = is_name n
  atom-narrow x t (several s) = is_several s
  atom-narrow x t (no_atom_target h) = is_none h

  -- a primary p, and a step behind it
  step-narrow : (x y : List Token) (p : Expr) (s : Step) → (primary room e).Spells x p → StepIs room e y s → Narrow room (x ++ y) (with_step p s)
  step-narrow x y p s h (by_attribute a c t) = is_attribute (record { front = x; back = y; one = p; two = s; split = refl; first = h; second = a; value = refl })
  step-narrow x y p s h (by_subscript a c t) = is_subscript (record { front = x; back = y; one = p; two = s; split = refl; first = h; second = a; value = refl })
  step-narrow x y p s h (by_call t) = is_none (longer-target room e x p s h ∙ t)

  pub primary-narrow : (x : List Token) (t : Expr) → (primary room e).Spells x t → Narrow room x t
  unfolding primary chain
  primary-narrow x t h = by h.two h.second h.value
    where
      by : (ss : List Step) → Steps room e (is_callee h.one) h.back ss → t ≡ postfix_of h.one ss → Narrow room x t
      by [] k v =
          let all : h.front ≡ x = sym (h.split ∙ ap (λ (w : List Token). h.front ++ w) k ∙ append_none h.front) in
          subst (λ (w : List Token). Narrow room w t) all (subst (λ (w : Expr). Narrow room h.front w) (sym v) (atom-narrow h.front h.one (atom-out room e h.front h.one h.first).0))
      by (s ∷ ss) k v =
          let l = last-step room e (is_callee h.one) h.back s ss k in
          let plain = (atom-out room e h.front h.one h.first).1 in
          let p : (primary room e).Spells (h.front ++ l.front) (postfix_of h.one l.before) =
          record { front = h.front; back = l.front; one = h.one; two = l.before; split = refl; first = h.first; second = l.steps_before; value = refl } in
          let tree : with_step (postfix_of h.one l.before) l.last ≡ t = with-step-is h.one plain l.before l.last ∙ ap (postfix_of h.one) (sym l.all) ∙ sym v in
          let all : (h.front ++ l.front) ++ l.back ≡ x = append_assoc h.front l.front l.back ∙ ap (λ (w : List Token). h.front ++ w) (sym l.split) ∙ sym h.split in
          subst (λ (w : List Token). Narrow room w t) all (subst (λ (w : Expr). Narrow room ((h.front ++ l.front) ++ l.back) w) tree (step-narrow (h.front ++ l.front) l.back (postfix_of h.one l.before) l.last p (step-is room e l.callable l.back l.last l.last_step)))

-- ---- levels: what may be assigned to is no operation

-- t is a phrase of the tighter level, or no target
abbrev Passes : (List Token → Expr → Type 0) → List Token → Expr → Type 0
Passes P x t = P x t ⊎ (target_of t ≡ targets.Nothing)

passes : {B : Type 0} {P : List Token → Expr → Type 0} {Q : Expr → List Token → B → Type 0} (f : Expr → B → Expr) (x : List Token) (t : Expr)
    → ((a : Expr) (y : List Token) (b : B) → Q a y b → ((y ≡ []) × (f a b ≡ a)) ⊎ (target_of (f a b) ≡ targets.Nothing)) → Then P Q f x t → Passes P x t
passes {B} {P} {Q} f x t alone-or h = by (alone-or h.one h.back h.two h.second)
  where
    by : ((h.back ≡ []) × (f h.one h.two ≡ h.one)) ⊎ (target_of (f h.one h.two) ≡ targets.Nothing) → Passes P x t
    by (inl (e, s)) =
        let all : h.front ≡ x = sym (h.split ∙ ap (λ (w : List Token). h.front ++ w) e ∙ append_none h.front) in
        inl (subst (λ (w : List Token). P w t) all (subst (λ (w : Expr). P h.front w) (sym (h.value ∙ s)) h.first))
    by (inr n) = inr (ap target_of h.value ∙ n)

-- a level of what may stand again and again behind the first
levels : {B : Type 0} {P : List Token → Expr → Type 0} {Q : List Token → B → Type 0} (f : Expr → List B → Expr) (x : List Token) (t : Expr)
    → ((a : Expr) → f a [] ≡ a) → ((a : Expr) (b : B) (bs : List B) → target_of (f a (b ∷ bs)) ≡ targets.Nothing) → Then P (λ a. Many Q) f x t → Passes P x t
levels {B} {P} {Q} f x t none some h = passes f x t by h
  where
    by : (a : Expr) (y : List Token) (bs : List B) → Many Q y bs → ((y ≡ []) × (f a bs ≡ a)) ⊎ (target_of (f a bs) ≡ targets.Nothing)
    by a y [] m = inl (m, none a)
    by a y (b ∷ bs) m = inr (some a b bs)

further : (g k : Phrase Token Expr) (x : List Token) (t : Expr) → (g.Spells x t → Passes k.Spells x t) → Passes g.Spells x t → Passes k.Spells x t
further g k x t f (inl h) = f h
further g k x t f (inr n) = inr n

module _ (l : ℕ) (g : Phrase Token Expr) where
  level-passes : (x : List Token) (t : Expr) → (level l g).Spells x t → Passes g.Spells x t
  unfolding level
  level-passes x t h = levels binary_of x t (λ a. refl) (λ a o os. ap form_target (open-binary a (o ∷ os))) h

binary-passes : (l : ℕ) (g : Phrase Token Expr) (x : List Token) (t : Expr) → (binary l g).Spells x t → Passes g.Spells x t
unfolding binary
binary-passes zero g x t h = inl h
binary-passes (suc l) g x t h = further (binary l g) g x t (binary-passes l g x t) (level-passes l (binary l g) x t h)

comparison-passes : (g : Phrase Token Expr) (x : List Token) (t : Expr) → (comparison g).Spells x t → Passes g.Spells x t
unfolding comparison
comparison-passes g x t h = levels comparison_of x t (λ a. refl) (λ a o os. ap form_target (open-comparison a (o ∷ os))) h

conjunction-passes : (g : Phrase Token Expr) (x : List Token) (t : Expr) → (conjunction g).Spells x t → Passes g.Spells x t
unfolding conjunction
conjunction-passes g x t h = levels and_of x t (λ a. refl) (λ a o os. ap form_target (open-and a (o ∷ os))) h

disjunction-passes : (g : Phrase Token Expr) (x : List Token) (t : Expr) → (disjunction g).Spells x t → Passes g.Spells x t
unfolding disjunction
disjunction-passes g x t h = levels or_of x t (λ a. refl) (λ a o os. ap form_target (open-or a (o ∷ os))) h

power-passes : (room : ℕ) (w f : Phrase Token Expr) (x : List Token) (t : Expr) → (power room w f).Spells x t → Passes (primary room w).Spells x t
unfolding power exponent
power-passes room w f x t h = passes power_of x t by h
  where
    by : (a : Expr) (y : List Token) (b : Option (Pos × Expr)) → (exponent room f).Spells y b → ((y ≡ []) × (power_of a b ≡ a)) ⊎ (target_of (power_of a b) ≡ targets.Nothing)
    by a y None (inl k) = let v = k.value in absurd (cc v)
    by a y None (inr k) = inl (k.0, refl)
    by a y (Some (at, p)) k = inr (ap form_target (open-power a p))

factor-passes : (room : ℕ) (w f : Phrase Token Expr) (x : List Token) (t : Expr) → (factor_over room w f).Spells x t → Passes (power room w f).Spells x t
unfolding factor_over
factor-passes room w f x t (inl h) = inr (ap target_of h.value ∙ ap form_target (open-unary h.one.0 h.two))
factor-passes room w f x t (inr h) = inl h

inversion-passes : (room : ℕ) (i g : Phrase Token Expr) (x : List Token) (t : Expr) → (inversion_over room i g).Spells x t → Passes g.Spells x t
unfolding inversion_over
inversion-passes room i g x t (inl h) = inr (ap target_of h.value ∙ ap form_target (open-not h.two))
inversion-passes room i g x t (inr h) = inl h

conditional-passes : (room : ℕ) (d w : Phrase Token Expr) (x : List Token) (t : Expr) → (conditional room d w).Spells x t → Passes d.Spells x t
unfolding conditional choice
conditional-passes room d w x t h = passes conditional_of x t by h
  where
    by : (a : Expr) (y : List Token) (b : Option (Pos × Expr × Expr)) → (choice room d w).Spells y b → ((y ≡ []) × (conditional_of a b ≡ a)) ⊎ (target_of (conditional_of a b) ≡ targets.Nothing)
    by a y None (inl k) = let v = k.value in absurd (cc v)
    by a y None (inr k) = inl (k.0, refl)
    by a y (Some (at, c, o)) k = inr (ap form_target (open-conditional a c o))

-- what may be assigned to is a primary
expr-passes : (room : ℕ) (x : List Token) (t : Expr) → (expr room).Spells x t → Passes (primary room (nested room Whole)).Spells x t
unfolding shaped shape_over expr_in inversion_in
expr-passes room x t h =
    let w = nested room Whole in
    let i = nested room Inversion in
    let f = nested room Factor in
    let r = factor_over room w f in
    let b = binary all_levels r in
    let c = comparison b in
    let n = inversion_over room i c in
    let a = conjunction n in
    let d = disjunction a in
    further (power room w f) (primary room w) x t (power-passes room w f x t)
    (further r (power room w f) x t (factor-passes room w f x t)
    (further b r x t (binary-passes all_levels r x t)
    (further c b x t (comparison-passes b x t)
    (further n c x t (inversion-passes room i c x t) (further a n x t (conjunction-passes n x t) (further d a x t (disjunction-passes a x t) (conditional-passes room d w x t h)))))))

pub narrow : (room : ℕ) (x : List Token) (t : Expr) → (expr room).Spells x t → Narrow room x t
narrow room x t h = by (expr-passes room x t h)
  where
    by : Passes (primary room (nested room Whole)).Spells x t → Narrow room x t
    by (inl k) = primary-narrow room x t k
    by (inr n) = is_none n

-- ---- a primary is an expression

over-levels : (l : ℕ) (g : Phrase Token Expr) (x : List Token) (t : Expr) → g.Spells x t → (binary l g).Spells x t
unfolding binary level
over-levels zero g x t h = h
over-levels (suc l) g x t h = alone binary_of x t [] (over-levels l g x t h) refl

pub primary-expr : (room : ℕ) (x : List Token) (t : Expr) → (primary room (nested room Whole)).Spells x t → (expr room).Spells x t
unfolding shaped shape_over expr_in inversion_in conditional choice disjunction conjunction inversion_over comparison factor_over power exponent
primary-expr room x t h =
    alone conditional_of x t None
    (alone or_of x t []
    (alone and_of x t [] (inr (alone comparison_of x t [] (over-levels all_levels (factor_over room (nested room Whole) (nested room Factor)) x t (inr (alone power_of x t None h (inr (refl, refl))))) refl)) refl)
    refl)
    (inr (refl, refl))
