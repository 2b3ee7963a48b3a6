-- Parameters and arguments are those of the productions.
use Rattle.std.proofs.Common.{◌≡◌, ℕ, Bool, true, false, cond, not, ◌&&◌, ◌||◌, List, [], ◌∷◌, ◌++◌, Option, Some, None, ◌⊎◌, inl, inr, refl, sym, ap, subst, ◌∙◌}
use Rattle.phrases.specs.Phrases.{Phrase, token, sequence}
use Rattle.phrases.specs.Sets.{has, within}
use Rattle.phrases.proofs.Sets.{append_none, within-has}
use Rattle.py_literals.specs.declared.place.Pos.{Pos}
use Rattle.py_lexer.specs.declared.token.Kind.TheVariants as kinds
use Rattle.py_lexer.specs.declared.token.Token.{Token}
use Rattle.py_ast.specs.Kinds.{class, code, name_code, super_code}
use Rattle.py_ast.specs.Tokens.{name_codes, name_of, name_value}
use Rattle.py_ast.specs.Trees.{all_given, OpenForm, open_form, name_form, bare_name, keyword_argument_of, argument_of, has_keyword}
use Rattle.py_ast.specs.Grammar.{both, second, mapped, past, comma_items, expr, keyword_value, keyword_argument, after_argument, argument, argument_first, arguments}
use Rattle.py_ast.specs.Literals.{plain_argument_of, literal_argument, literal_argument_first, literal_arguments}
use Rattle.py_ast.specs.Statements.{optional, name, is_bare_form, parameter_of, default, parameter, has_default, parameters, in_parentheses, all_of, signature}
use Rattle.py_ast.specs.Files.{name_expr}
use Rattle.py_ast.specs.declared.tree.Argument.{Argument}
use Rattle.py_ast.specs.declared.tree.Expr.{Expr, out-Expr}
use Rattle.py_ast.specs.declared.tree.Form.TheOpen.{Form-F as open_forms}
use Rattle.py_ast.specs.declared.tree.NameAt.{NameAt}
use Rattle.py_ast.specs.declared.statement.Parameter.{Parameter}
use Rattle.py_productions.specs.Rules.{Word, Row, Maybe, values, Items}
use Rattle.py_productions.specs.Targets.{AnyName}
use Rattle.py_productions.specs.Orders.{AreLast}
use Rattle.py_productions.specs.Parameters.{IsParameter, Parameters, Signature, IsPositional, IsArgument, positional, keyword, Arguments}
use Rattle.py_productions.proofs.Parts.{mapped-out, mapped-in, optional-out, optional-in, past-out, past-into, maybe-out, maybe-into}
use Rattle.py_productions.proofs.Commas.{items-in, in-items}
use Rattle.py_productions.proofs.Opened.{open-name}
use Rattle.py_productions.proofs.Leaves.{picked, picks}
use Rattle.py_productions.proofs.Names.{name-expr, bare-name}
use Rattle.py_productions.proofs.Parentheses.{parenthesized-out, parenthesized-into}
use Rattle.py_productions.proofs.Orders.{Follows, ordered, stand}

-- ---- lists whose items come in states

module _ {A : Type 0} (has_it : A → Bool) (first : Bool → List ℕ) (h : Bool → Phrase Token A) (P : List Token → A → Type 0)
    (out : (s : Bool) (x : List Token) (a : A) → (h s).Spells x a → P x a × Follows has_it s a) (into : (s : Bool) (x : List Token) (a : A) → P x a → Follows has_it s a → (h s).Spells x a) where
  -- the items of a list, those that have it behind those that don't
  pub record OrderedItems (x : List Token) (items : List A) : Type 0 where
    pub spelled : Items kinds.Comma P x items
    pub last : AreLast has_it items

  abbrev InStates : Phrase Token (List A)
  InStates = mapped (sequence (h false) (λ a. comma_items first h has_it (has_it a)) both) all_given

  pub ordered-out : (x : List Token) (items : List A) → InStates.Spells x items → OrderedItems x items
  ordered-out x items k =
      let i = items-in first h P (Follows has_it) has_it out into (h false) (λ y a s. (out false y a s).0) x items k in
      record {
        spelled = record { first = i.first_item; others = i.others; end = i.end; listed = i.listed; all = i.all };
        last = subst (λ w. AreLast has_it w) (sym i.all) (ordered has_it i.first_item (values i.others) i.stand);
      }

  pub ordered-into : (x : List Token) (items : List A) → OrderedItems x items → InStates.Spells x items
  ordered-into x items o =
      let s = o.spelled in
      in-items first h P (Follows has_it) has_it out into (h false) (λ y a p. into false y a p (λ e. absurd (cc e))) x items
      (record { first_item = s.first; others = s.others; end = s.end; listed = s.listed; stand = stand has_it s.first (values s.others) (subst (λ w. AreLast has_it w) s.all o.last); all = s.all })

-- ---- parameters

module _ (e : Phrase Token Expr) where
  abbrev Annotation : List Token → NameAt × Option Expr → Type 0
  Annotation = Row AnyName (Maybe (Row (Word kinds.Colon) e.Spells second)) both

  abbrev Noted : Phrase Token (NameAt × Option Expr)
  Noted = sequence name (λ n. optional (code kinds.Colon ∷ []) (past (code kinds.Colon) e)) both

  annotation-out : (x : List Token) (p : NameAt × Option Expr) → Noted.Spells x p → Annotation x p
  unfolding name
  annotation-out x p h = record {
    front = h.front;
    back = h.back;
    one = h.one;
    two = h.two;
    split = h.split;
    first = h.first;
    second = maybe-out (code kinds.Colon) e h.back h.two (optional-out (code kinds.Colon ∷ []) (past (code kinds.Colon) e) h.back h.two h.second);
    value = h.value;
  }

  annotation-into : (x : List Token) (p : NameAt × Option Expr) → Annotation x p → Noted.Spells x p
  unfolding name
  annotation-into x p h = record {
    front = h.front;
    back = h.back;
    one = h.one;
    two = h.two;
    split = h.split;
    first = h.first;
    second = optional-in (code kinds.Colon ∷ []) (past (code kinds.Colon) e) h.back h.two (maybe-into (code kinds.Colon) e h.back h.two h.second);
    value = h.value;
  }

  -- a default, which may be missing unless one must be there
  default-out : (b : Bool) (x : List Token) (o : Option Expr) → (default e b).Spells x o → Maybe (Row (Word kinds.Equal) e.Spells second) x o × (b ≡ true → (o ≡ None → ⊥))
  unfolding default
  default-out false x o h = (maybe-out (code kinds.Equal) e x o (optional-out (code kinds.Equal ∷ []) (past (code kinds.Equal) e) x o h), λ k. absurd (cc k))
  default-out true x o h =
      let m = mapped-out (past (code kinds.Equal) e) Some x o h in
      let v = m.value in (
        subst (λ (w : Option Expr). Maybe (Row (Word kinds.Equal) e.Spells second) x w) (sym m.value) (past-out (code kinds.Equal) e x m.from m.spelled),
        λ k n. cc (v, n),
      )

  default-into : (b : Bool) (x : List Token) (o : Option Expr) → Maybe (Row (Word kinds.Equal) e.Spells second) x o → (b ≡ true → (o ≡ None → ⊥)) → (default e b).Spells x o
  unfolding default
  default-into false x o h k = optional-in (code kinds.Equal ∷ []) (past (code kinds.Equal) e) x o (maybe-into (code kinds.Equal) e x o h)
  default-into true x None h k = absurd (k refl refl)
  default-into true x (Some v) h k = mapped-in (past (code kinds.Equal) e) Some x v (past-into (code kinds.Equal) e x v h)

  some-default : (p : Parameter) (n : NameAt × Option Expr) (o : Option Expr) → p ≡ parameter_of n o → (o ≡ None → ⊥) → has_default p ≡ true
  some-default p n None h k = absurd (k refl)
  some-default p n (Some v) h k = ap has_default h

  default-some : (p : Parameter) (n : NameAt × Option Expr) (o : Option Expr) → p ≡ parameter_of n o → has_default p ≡ true → o ≡ None → ⊥
  default-some p n None h k e = let f = ap has_default h in cc (f, k)
  default-some p n (Some v) h k e = cc e

  parameter-out : (b : Bool) (x : List Token) (p : Parameter) → (parameter e b).Spells x p → IsParameter e.Spells x p × Follows has_default b p
  unfolding parameter
  parameter-out b x p h =
      let d = default-out b h.back h.two h.second in (
        record { front = h.front; back = h.back; one = h.one; two = h.two; split = h.split; first = annotation-out h.front h.one h.first; second = d.0; value = h.value },
        λ k. some-default p h.one h.two h.value (d.1 k),
      )

  parameter-into : (b : Bool) (x : List Token) (p : Parameter) → IsParameter e.Spells x p → Follows has_default b p → (parameter e b).Spells x p
  unfolding parameter
  parameter-into b x p h k = record {
    front = h.front;
    back = h.back;
    one = h.one;
    two = h.two;
    split = h.split;
    first = annotation-into h.front h.one h.first;
    second = default-into b h.back h.two h.second (λ t. default-some p h.one h.two h.value (k t));
    value = h.value;
  }

  pub parameters-out : (x : List Token) (ps : List Parameter) → (parameters e).Spells x ps → Parameters e.Spells x ps
  unfolding parameters
  parameters-out x ps h = let o = ordered-out has_default (λ s. name_codes) (parameter e) (IsParameter e.Spells) parameter-out parameter-into x ps h in record { spelled = o.spelled; ordered = o.last }

  pub parameters-into : (x : List Token) (ps : List Parameter) → Parameters e.Spells x ps → (parameters e).Spells x ps
  unfolding parameters
  parameters-into x ps h = ordered-into has_default (λ s. name_codes) (parameter e) (IsParameter e.Spells) parameter-out parameter-into x ps (record { spelled = h.spelled; last = h.ordered })

  -- ---- signatures

  abbrev Listing : Phrase Token (Option (List Parameter))
  Listing = in_parentheses name_codes (parameters e)

  pub signature-out : (x : List Token) (p : List Parameter × Option Expr) → (signature e).Spells x p → Signature e.Spells x p
  unfolding signature
  signature-out x p h =
      let m = mapped-out Listing all_of h.front h.one h.first in
      record {
        front = h.front;
        back = h.back;
        one = h.one;
        two = h.two;
        split = h.split;
        first = record { inside = m.from; spelled = parenthesized-out name_codes (parameters e) (Parameters e.Spells) parameters-out h.front m.from m.spelled; all = m.value };
        second = maybe-out (code kinds.Arrow) e h.back h.two (optional-out (code kinds.Arrow ∷ []) (past (code kinds.Arrow) e) h.back h.two h.second);
        value = h.value;
      }

  pub signature-into : (x : List Token) (p : List Parameter × Option Expr) → Signature e.Spells x p → (signature e).Spells x p
  unfolding signature
  signature-into x p h =
      let f = h.first in
      record {
        front = h.front;
        back = h.back;
        one = h.one;
        two = h.two;
        split = h.split;
        first = subst (λ w. (mapped Listing all_of).Spells h.front w) (sym f.all) (mapped-in Listing all_of h.front f.inside (parenthesized-into name_codes (parameters e) (Parameters e.Spells) parameters-into h.front f.inside f.spelled));
        second = optional-in (code kinds.Arrow ∷ []) (past (code kinds.Arrow) e) h.back h.two (maybe-into (code kinds.Arrow) e h.back h.two h.second);
        value = h.value;
      }

-- ---- arguments

has-keyword-in : {a : Argument} (P : List Token → Expr → Type 0) (x : List Token) → Row AnyName (Row (Word kinds.Equal) P second) keyword_argument_of x a → has_keyword a ≡ true
has-keyword-in P x h = ap has_keyword h.value

no-keyword : (P : List Token → Expr → Type 0) (x : List Token) (a : Argument) → IsPositional P x a → has_keyword a ≡ true → ⊥
no-keyword P x a p k = let e = ap has_keyword p.tree in cc (e, k)

-- arguments with keywords alone
module _ (codes : List ℕ) (g : Phrase Token Expr) where
  abbrev Keyworded : Phrase Token Argument
  Keyworded = sequence (token (name_of codes)) (λ n. past (code kinds.Equal) g) keyword_argument_of

  keyworded-out : ((t : Token) (n : NameAt) → name_of codes t ≡ Some n → name_of name_codes t ≡ Some n) → (x : List Token) (a : Argument) → Keyworded.Spells x a → Row AnyName (Row (Word kinds.Equal) g.Spells second) keyword_argument_of x a
  keyworded-out f x a h = record {
    front = h.front;
    back = h.back;
    one = h.one;
    two = h.two;
    split = h.split;
    first = record { token = h.first.token; alone = h.first.alone; is = f h.first.token h.one h.first.is };
    second = past-out (code kinds.Equal) g h.back h.two h.second;
    value = h.value;
  }

  keyworded-into : (x : List Token) (a : Argument) (h : Row AnyName (Row (Word kinds.Equal) g.Spells second) keyword_argument_of x a) → name_of codes h.first.token ≡ Some h.one → Keyworded.Spells x a
  keyworded-into x a h e = record {
    front = h.front;
    back = h.back;
    one = h.one;
    two = h.two;
    split = h.split;
    first = record { token = h.first.token; alone = h.first.alone; is = e };
    second = past-into (code kinds.Equal) g h.back h.two h.second;
    value = h.value;
  }

abbrev super_codes : List ℕ
super_codes = super_code ∷ []

any-of : (codes : List ℕ) → within codes name_codes ≡ true → (t : Token) (n : NameAt) → name_of codes t ≡ Some n → name_of name_codes t ≡ Some n
any-of codes w t n h =
    let (c, v) = picked codes (λ u. name_value u.at u.value) t n h in
    picks name_codes (λ u. name_value u.at u.value) t n (within-has codes name_codes (class t) w c) v

-- a name is an operand, or `super`
one-of : (b c : Bool) → (b || (c || false)) ≡ true → ((b || false) ≡ true) ⊎ ((c || false) ≡ true)
one-of true c h = inl refl
one-of false c h = inr h

name-kinds : (t : Token) (n : NameAt) → name_of name_codes t ≡ Some n → (name_of (name_code ∷ []) t ≡ Some n) ⊎ (name_of super_codes t ≡ Some n)
name-kinds t n h = by (one-of _ _ p.0)
  where
    p : (has name_codes (class t) ≡ true) × (name_value t.at t.value ≡ Some n)
    p = picked name_codes (λ u. name_value u.at u.value) t n h

    by : (has (name_code ∷ []) (class t) ≡ true) ⊎ (has super_codes (class t) ≡ true) → (name_of (name_code ∷ []) t ≡ Some n) ⊎ (name_of super_codes t ≡ Some n)
    by (inl c) = inl (picks (name_code ∷ []) (λ u. name_value u.at u.value) t n c p.1)
    by (inr c) = inr (picks super_codes (λ u. name_value u.at u.value) t n c p.1)

bare-some : (b : Bool) (at : Pos) (f : OpenForm) (n : NameAt) → cond b None (name_form at f) ≡ Some n → (not b && is_bare_form f) ≡ true
bare-some true at f n h = absurd (cc h)
bare-some false at (open_forms.Name m) n h = refl
bare-some false at _ n h = absurd (cc h)

bare-is : (n : NameAt) → bare_name (name_expr n) ≡ Some n
bare-is n = ap (name_form n.at) (open-name n.name)

module _ (room : ℕ) where
  abbrev e : Phrase Token Expr
  e = expr room

  -- behind an expression that is a name, "=" and a value may follow
  behind-out : (x front back : List Token) (a : Argument) (v : Expr) (o : Option NameAt) (two : Option (NameAt × Expr)) → x ≡ front ++ back → a ≡ argument_of v two → e.Spells front v → bare_name v ≡ o → (after_argument e o).Spells back two
      → IsArgument e.Spells x a
  unfolding after_argument
  behind-out x front back a v None two s t h b (k, n) =
      let all : front ≡ x = sym (s ∙ ap (λ (w : List Token). front ++ w) k ∙ append_none front) in
      positional (record { value = v; spelled = subst (λ (w : List Token). e.Spells w v) all h; tree = t ∙ ap (argument_of v) n })
  behind-out x front back a v (Some n) two s t h b (inr (k, m)) =
      let all : front ≡ x = sym (s ∙ ap (λ (w : List Token). front ++ w) k ∙ append_none front) in
      positional (record { value = v; spelled = subst (λ (w : List Token). e.Spells w v) all h; tree = t ∙ ap (argument_of v) m })
  behind-out x front back a v (Some n) two s t h b (inl k) =
      let m = mapped-out (past (code kinds.Equal) e) (keyword_value n) back two k in
      let named = bare-name room front v h (bare-some (out-Expr v).enclosed (out-Expr v).start (open_form v) n b) in
      let same : Some named.name ≡ Some n = sym (bare-is named.name) ∙ ap bare_name (sym named.tree) ∙ b in
      let one : named.name ≡ n = cc same in
      let o = named.spelled in
      keyword (record {
        front = front;
        back = back;
        one = n;
        two = m.from;
        split = s;
        first = subst (λ (w : NameAt). AnyName front w) one (record { token = o.token; alone = o.alone; is = any-of (name_code ∷ []) refl o.token named.name o.is });
        second = past-out (code kinds.Equal) e back m.from m.spelled;
        value = t ∙ ap (argument_of v) m.value;
      })

  argument-out : (b : Bool) (x : List Token) (a : Argument) → (argument e b).Spells x a → IsArgument e.Spells x a × Follows has_keyword b a
  unfolding argument keyword_argument
  argument-out false x a (inl h) = (keyword (keyworded-out super_codes e (any-of super_codes refl) x a h), λ k. absurd (cc k))
  argument-out false x a (inr h) = (behind-out x h.front h.back a h.one (bare_name h.one) h.two h.split h.value h.first refl h.second, λ k. absurd (cc k))
  argument-out true x a h = let k = keyworded-out name_codes e (λ t n w. w) x a h in (keyword k, λ w. has-keyword-in e.Spells x k)

  after-nothing : (o : Option NameAt) → (after_argument e o).Spells [] None
  unfolding after_argument
  after-nothing None = (refl, refl)
  after-nothing (Some n) = inr (refl, refl)

  after-name : (n : NameAt) (o : Option NameAt) (x : List Token) (v : Expr) → o ≡ Some n → Row (Word kinds.Equal) e.Spells second x v → (after_argument e o).Spells x (Some (n, v))
  unfolding after_argument
  after-name n o x v h k = subst (λ (w : Option NameAt). (after_argument e w).Spells x (Some (n, v))) (sym h) (inl (mapped-in (past (code kinds.Equal) e) (keyword_value n) x v (past-into (code kinds.Equal) e x v k)))

  keyword-into : (x : List Token) (a : Argument) → Row AnyName (Row (Word kinds.Equal) e.Spells second) keyword_argument_of x a → (argument e false).Spells x a
  unfolding argument keyword_argument
  keyword-into x a h = by (name-kinds h.first.token h.one h.first.is)
    where
      by : (name_of (name_code ∷ []) h.first.token ≡ Some h.one) ⊎ (name_of super_codes h.first.token ≡ Some h.one) → (argument e false).Spells x a
      by (inl k) = inr (record {
        front = h.front;
        back = h.back;
        one = name_expr h.one;
        two = Some (h.one, h.two);
        split = h.split;
        first = name-expr room h.front h.one (record { token = h.first.token; alone = h.first.alone; is = k });
        second = after-name h.one (bare_name (name_expr h.one)) h.back h.two (bare-is h.one) h.second;
        value = h.value;
      })
      by (inr k) = inl (keyworded-into super_codes e x a h k)

  argument-into : (b : Bool) (x : List Token) (a : Argument) → IsArgument e.Spells x a → Follows has_keyword b a → (argument e b).Spells x a
  unfolding argument keyword_argument
  argument-into false x a (positional p) k = inr (record { front = x; back = []; one = p.value; two = None; split = sym (append_none x); first = p.spelled; second = after-nothing (bare_name p.value); value = p.tree })
  argument-into false x a (keyword h) k = keyword-into x a h
  argument-into true x a (positional p) k = absurd (no-keyword e.Spells x a p (k refl))
  argument-into true x a (keyword h) k = keyworded-into name_codes e x a h h.first.is

  pub arguments-out : (x : List Token) (as_given : List Argument) → (mapped (arguments e) all_given).Spells x as_given → Arguments e.Spells x as_given
  unfolding arguments
  arguments-out x as_given h = let o = ordered-out has_keyword argument_first (argument e) (IsArgument e.Spells) argument-out argument-into x as_given h in record { spelled = o.spelled; ordered = o.last }

  pub arguments-into : (x : List Token) (as_given : List Argument) → Arguments e.Spells x as_given → (mapped (arguments e) all_given).Spells x as_given
  unfolding arguments
  arguments-into x as_given h = ordered-into has_keyword argument_first (argument e) (IsArgument e.Spells) argument-out argument-into x as_given (record { spelled = h.spelled; last = h.ordered })

-- ---- literal arguments

module _ (l : Phrase Token Expr) where
  literal-out : (b : Bool) (x : List Token) (a : Argument) → (literal_argument l b).Spells x a → IsArgument l.Spells x a × Follows has_keyword b a
  unfolding literal_argument
  literal-out false x a (inl h) = (keyword (keyworded-out name_codes l (λ t n w. w) x a h), λ k. absurd (cc k))
  literal-out false x a (inr h) = let m = mapped-out l plain_argument_of x a h in (positional (record { value = m.from; spelled = m.spelled; tree = m.value }), λ k. absurd (cc k))
  literal-out true x a h = let k = keyworded-out name_codes l (λ t n w. w) x a h in (keyword k, λ w. has-keyword-in l.Spells x k)

  literal-into : (b : Bool) (x : List Token) (a : Argument) → IsArgument l.Spells x a → Follows has_keyword b a → (literal_argument l b).Spells x a
  unfolding literal_argument
  literal-into false x a (positional p) k = inr (subst (λ (w : Argument). (mapped l plain_argument_of).Spells x w) (sym p.tree) (mapped-in l plain_argument_of x p.value p.spelled))
  literal-into false x a (keyword h) k = inl (keyworded-into name_codes l x a h h.first.is)
  literal-into true x a (positional p) k = absurd (no-keyword l.Spells x a p (k refl))
  literal-into true x a (keyword h) k = keyworded-into name_codes l x a h h.first.is

  pub literals-out : (x : List Token) (as_given : List Argument) → (mapped (literal_arguments l) all_given).Spells x as_given → Arguments l.Spells x as_given
  unfolding literal_arguments
  literals-out x as_given h = let o = ordered-out has_keyword literal_argument_first (literal_argument l) (IsArgument l.Spells) literal-out literal-into x as_given h in record { spelled = o.spelled; ordered = o.last }

  pub literals-into : (x : List Token) (as_given : List Argument) → Arguments l.Spells x as_given → (mapped (literal_arguments l) all_given).Spells x as_given
  unfolding literal_arguments
  literals-into x as_given h = ordered-into has_keyword literal_argument_first (literal_argument l) (IsArgument l.Spells) literal-out literal-into x as_given (record { spelled = h.spelled; last = h.ordered })
