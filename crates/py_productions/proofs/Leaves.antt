-- Atoms of one token, and the names among them.
use Rattle.std.proofs.Common.{◌≡◌, ℕ, ℤ, Bool, true, false, cond, List, [], ◌∷◌, Option, Some, None, refl, sym, ap, subst, ◌∙◌}
use Rattle.phrases.specs.Sets.{has}
use Rattle.phrases.proofs.Sets.{within-has}
use Rattle.py_literals.specs.declared.place.Pos.{Pos}
use Rattle.py_lexer.specs.declared.token.Kind as tokens
use Rattle.py_lexer.specs.declared.token.Kind.TheVariants as kinds
use Rattle.py_lexer.specs.declared.token.Value.{Value}
use Rattle.py_lexer.specs.declared.token.Value.TheVariants as values
use Rattle.py_lexer.specs.declared.token.Token.{Token}
use Rattle.py_ast.specs.Kinds.{is_super, class_of, class, pick, name_code}
use Rattle.py_ast.specs.Tokens.{leaf_codes, leaf_form, leaf_at, leaf_of, name_value, name_of}
use Rattle.py_ast.specs.Trees.{leaf, postfix_of}
use Rattle.py_ast.specs.Statements.{form_target, target_of}
use Rattle.py_ast.specs.Files.{name_expr}
use Rattle.py_ast.specs.declared.tree.Constant.{Constant}
use Rattle.py_ast.specs.declared.tree.Constant.TheVariants as constants
use Rattle.py_ast.specs.declared.tree.Expr.{Expr}
use Rattle.py_ast.specs.declared.tree.Form.TheVariants as forms
use Rattle.py_ast.specs.declared.tree.NameAt.{NameAt}
use Rattle.py_ast.specs.declared.tree.Step.{Step}
use Rattle.py_ast.specs.declared.statement.Target.TheVariants as targets
use Rattle.py_productions.specs.Targets.{lengthened, with_step}
use Rattle.py_productions.proofs.Opened.{open-number, open-constant}

-- ---- tokens of some classes

module _ {A : Type 0} (codes : List ℕ) (value : Token → Option A) where
  pub picked : (t : Token) (a : A) → pick codes value t ≡ Some a → (has codes (class t) ≡ true) × (value t ≡ Some a)
  picked t a e = by (has codes (class t)) refl e
    where
      by : (b : Bool) → has codes (class t) ≡ b → cond b (value t) None ≡ Some a → (has codes (class t) ≡ true) × (value t ≡ Some a)
      by true h k = (h, k)
      by false h k = absurd cc

  pub picks : (t : Token) (a : A) → has codes (class t) ≡ true → value t ≡ Some a → pick codes value t ≡ Some a
  picks t a h e = rw h e

-- ---- atoms of one token

-- a step makes such an atom a chain
abbrev pub IsPlain : Expr → Type 0
IsPlain e = (s : Step) → with_step e s ≡ postfix_of e (s ∷ [])

-- a name, or what is assigned to by nobody
pub data LeafIs (k : tokens.Kind) (v : Value) (at : Pos) (e : Expr) : Type 0 where
  a_name : (n : List ℕ) → k ≡ kinds.Name → v ≡ values.Name n → e ≡ leaf at (forms.Name n) → LeafIs k v at e
  no_target : target_of e ≡ targets.Nothing → IsPlain e → LeafIs k v at e

number-is : (k : tokens.Kind) (v : Value) (at : Pos) (n : ℤ) (e : Expr) → e ≡ leaf at (forms.Number n) → LeafIs k v at e
number-is k v at n e h = subst (λ (x : Expr). LeafIs k v at x) (sym h) (no_target (ap form_target (open-number n)) (λ s. ap (lengthened (leaf at (forms.Number n)) s) (open-number n)))

constant-is : (k : tokens.Kind) (v : Value) (at : Pos) (c : Constant) (e : Expr) → e ≡ leaf at (forms.Constant c) → LeafIs k v at e
constant-is k v at c e h = subst (λ (x : Expr). LeafIs k v at x) (sym h) (no_target (ap form_target (open-constant c)) (λ s. ap (lengthened (leaf at (forms.Constant c)) s) (open-constant c)))

leaf-is : (k : tokens.Kind) (v : Value) (at : Pos) (e : Expr) → leaf_at (leaf_form k v) at ≡ Some e → LeafIs k v at e
leaf-is kinds.Name (values.Name n) at e h = a_name n refl refl (let f = h in cc f)
leaf-is kinds.Name values.Nothing at e h = absurd (cc h)
leaf-is kinds.Name (values.Text s) at e h = absurd (cc h)
leaf-is kinds.Name (values.Whole n) at e h = absurd (cc h)
leaf-is kinds.Number (values.Whole n) at e h = number-is kinds.Number (values.Whole n) at n e (cc h)
leaf-is kinds.Number values.Nothing at e h = absurd (cc h)
leaf-is kinds.Number (values.Text s) at e h = absurd (cc h)
leaf-is kinds.Number (values.Name n) at e h = absurd (cc h)
leaf-is kinds.False v at e h = constant-is kinds.False v at constants.False e (cc h)
leaf-is kinds.None v at e h = constant-is kinds.None v at constants.None e (cc h)
leaf-is kinds.True v at e h = constant-is kinds.True v at constants.True e (cc h)
leaf-is kinds.Ellipsis v at e h = constant-is kinds.Ellipsis v at constants.Ellipsis e (cc h)
leaf-is _ v at e h = absurd (cc h)

-- ---- names

not-super : (n : List ℕ) (b : Bool) → has leaf_codes (cond b 2 1) ≡ true → has (name_code ∷ []) (cond b 2 1) ≡ true
not-super n true h = absurd (cc h)
not-super n false h = refl

name-class-is : (t : Token) (n : List ℕ) → t.kind ≡ kinds.Name → t.value ≡ values.Name n → class t ≡ cond (is_super n) 2 1
name-class-is t n k v = ap (λ (x : tokens.Kind). class_of x t.value) k ∙ ap (class_of kinds.Name) v

-- the name of a leaf is an operand
pub leaf-operand : (t : Token) (n : List ℕ) → has leaf_codes (class t) ≡ true → t.kind ≡ kinds.Name → t.value ≡ values.Name n → name_of (name_code ∷ []) t ≡ Some (record { name = n; at = t.at })
leaf-operand t n h k v =
    let c = name-class-is t n k v in
    let one : has (name_code ∷ []) (class t) ≡ true = rw c (not-super n (is_super n) (rw c at h)) in
    picks (name_code ∷ []) (λ u. name_value u.at u.value) t (record { name = n; at = t.at }) one (ap (name_value t.at) v)

pub leaf-out : (t : Token) (e : Expr) → leaf_of t ≡ Some e → LeafIs t.kind t.value t.at e
leaf-out t e h = leaf-is t.kind t.value t.at e (picked leaf_codes (λ u. leaf_at (leaf_form u.kind u.value) u.at) t e h).1

pub leaf-has : (t : Token) (e : Expr) → leaf_of t ≡ Some e → has leaf_codes (class t) ≡ true
leaf-has t e h = (picked leaf_codes (λ u. leaf_at (leaf_form u.kind u.value) u.at) t e h).0

only-name : (k : tokens.Kind) (v : Value) → has (name_code ∷ []) (class_of k v) ≡ true → k ≡ kinds.Name
only-name kinds.Name v h = refl
only-name kinds.Number (values.Whole n) h = absurd (cc h)
only-name kinds.Number values.Nothing h = absurd (cc h)
only-name kinds.Number (values.Text s) h = absurd (cc h)
only-name kinds.Number (values.Name n) h = absurd (cc h)
only-name kinds.Text (values.Whole n) h = absurd (cc h)
only-name kinds.Text values.Nothing h = absurd (cc h)
only-name kinds.Text (values.Text s) h = absurd (cc h)
only-name kinds.Text (values.Name n) h = absurd (cc h)
only-name kinds.FStringText (values.Whole n) h = absurd (cc h)
only-name kinds.FStringText values.Nothing h = absurd (cc h)
only-name kinds.FStringText (values.Text s) h = absurd (cc h)
only-name kinds.FStringText (values.Name n) h = absurd (cc h)
only-name _ v h = absurd (cc h)

name-leaf : (v : Value) (at : Pos) (n : NameAt) → name_value at v ≡ Some n → leaf_at (leaf_form kinds.Name v) at ≡ Some (name_expr n)
name-leaf (values.Name m) at n h = let e : record { name = m; at = at } ≡ n = cc h in ap (λ (k : NameAt). Some (name_expr k)) e
name-leaf values.Nothing at n h = absurd (cc h)
name-leaf (values.Text s) at n h = absurd (cc h)
name-leaf (values.Whole s) at n h = absurd (cc h)

pub operand-leaf : (t : Token) (n : NameAt) → name_of (name_code ∷ []) t ≡ Some n → leaf_of t ≡ Some (name_expr n)
operand-leaf t n h =
    let (c, v) = picked (name_code ∷ []) (λ u. name_value u.at u.value) t n h in
    let k : t.kind ≡ kinds.Name = only-name t.kind t.value c in
    picks leaf_codes (λ u. leaf_at (leaf_form u.kind u.value) u.at) t (name_expr n) (within-has (name_code ∷ []) leaf_codes (class t) refl c)
    (ap (λ (x : tokens.Kind). leaf_at (leaf_form x t.value) t.at) k ∙ name-leaf t.value t.at n v)
