-- Expressions of any depth are lawful.
use Rattle.std.proofs.Common.{◌≡◌, ℕ, zero, suc, ◌-◌, ◌<◌, true, false, List, [], ◌∷◌, inl, inr, refl, sym, arith}
use Rattle.phrases.specs.Laws.{Laws}
use Rattle.phrases.specs.Phrases.{Phrase}
use Rattle.phrases.specs.Reading.{Read}
use Rattle.phrases.specs.Sets.{has, Sets}
use Rattle.phrases.specs.Spelling.{Then, Many}
use Rattle.phrases.specs.Verdict.{Spelled, Means}
use Rattle.phrases.proofs.Outcomes.{verdict, one_tree}
use Rattle.phrases.proofs.Sets.{append_none}
use Rattle.py_lexer.specs.declared.token.Token.{Token}
use Rattle.py_ast.specs.Kinds.{class}
use Rattle.py_ast.specs.Nested.{nest_shapes}
use Rattle.py_ast.specs.Trees.{leaf}
use Rattle.py_ast.specs.Grammar.{expr_first, factor_first, mapped, atom, chain, primary, exponent, power, factor_over, level, binary, all_levels, comparison, inversion_over, conjunction, disjunction, choice, conditional, Shape, Whole, Inversion, Factor, shape_first, inversion_in, expr_in, shape_over, nested, shaped, expr}
use Rattle.py_ast.specs.declared.tree.Expr.{Expr}
use Rattle.py_ast.specs.declared.tree.Form.TheVariants as forms
use Rattle.py_ast.proofs.TokenLaws.{some_place, a_name, leaf-kind}
use Rattle.py_ast.proofs.ExprLaws.{expr_more, comparison_more, factor_more, factor_sets, inversion_sets, expr_sets, factor-laws, comparison-laws, inversion-laws, conjunction-laws, disjunction-laws, conditional-laws}
use Rattle.py_ast.proofs.Nested.{nest-laws}

-- the tokens with which a whole phrase of a shape may go on
abbrev pub shape_more : Shape → List ℕ
shape_more Whole = expr_more
shape_more Inversion = comparison_more
shape_more Factor = factor_more

abbrev pub shape_sets : Shape → Sets
shape_sets s = record { first = shape_first s; more = shape_more s; nullable = false }

-- ---- a layer

module _ (room n : ℕ) (i i+ k : Shape → Phrase Token Expr) (l : (s : Shape) → Laws class (i s) (i+ s) (k s) (shape_sets s)) where
  abbrev factor-layer : Laws class (factor_over room (i Whole) (i Factor)) (factor_over (suc room) (i+ Whole) (i+ Factor)) (factor_over n (k Whole) (k Factor)) factor_sets
  factor-layer = factor-laws (l Whole) room n (l Factor)

  inversion-layer : Laws class (inversion_in room (i Whole) (i Inversion) (i Factor)) (inversion_in (suc room) (i+ Whole) (i+ Inversion) (i+ Factor)) (inversion_in n (k Whole) (k Inversion) (k Factor)) inversion_sets
  unfolding inversion_in
  inversion-layer = inversion-laws room n (l Inversion) (comparison-laws factor-layer)

  expr-layer : Laws class (expr_in room (i Whole) (i Inversion) (i Factor)) (expr_in (suc room) (i+ Whole) (i+ Inversion) (i+ Factor)) (expr_in n (k Whole) (k Inversion) (k Factor)) expr_sets
  unfolding expr_in
  expr-layer = conditional-laws room n (l Whole) (disjunction-laws (conjunction-laws inversion-layer))

  pub layer-laws : (s : Shape) → Laws class (shape_over room i s) (shape_over (suc room) i+ s) (shape_over n k s) (shape_sets s)
  unfolding shape_over
  layer-laws Whole = expr-layer
  layer-laws Inversion = inversion-layer
  layer-laws Factor = factor-layer

-- ---- a name stands for each shape

abbrev a_leaf : Expr
a_leaf = leaf some_place (forms.Name (97 ∷ []))

pub alone : {A B C : Type 0} {P : List Token → A → Type 0} {Q : A → List Token → B → Type 0} (f : A → B → C) (x : List Token) (a : A) (b : B) → P x a → Q a [] b → Then P Q f x (f a b)
alone f x a b h q = record { front = x; back = []; one = a; two = b; split = sym (append_none x); first = h; second = q; value = refl }

abbrev name : List Token
name = a_name ∷ []

some-factor : (room : ℕ) (e f : Phrase Token Expr) → (factor_over room e f).Spells name a_leaf
unfolding factor_over power primary atom chain exponent
some-factor room e f =
    inr (alone _ name a_leaf _ (alone _ name a_leaf [] (inl (record { token = a_name; alone = refl; is = refl })) refl) (inr (refl, refl)))

some-binary : (l : ℕ) (f : Phrase Token Expr) → f.Spells name a_leaf → (binary l f).Spells name a_leaf
unfolding binary level
some-binary zero f h = h
some-binary (suc l) f h = alone _ name a_leaf [] (some-binary l f h) refl

some-inversion : (room : ℕ) (w i f : Phrase Token Expr) → (inversion_in room w i f).Spells name a_leaf
unfolding inversion_in inversion_over comparison
some-inversion room w i f = inr (alone _ name a_leaf [] (some-binary all_levels (factor_over room w f) (some-factor room w f)) refl)

some-expr : (room : ℕ) (w i f : Phrase Token Expr) → (expr_in room w i f).Spells name a_leaf
unfolding expr_in conditional choice disjunction conjunction
some-expr room w i f = alone _ name a_leaf _ (alone _ name a_leaf [] (alone _ name a_leaf [] (some-inversion room w i f) refl) refl) (inr (refl, refl))

some-shape : (room : ℕ) (g : Shape → Phrase Token Expr) (s : Shape) → (x : List Token) × (a : Expr) × (shape_over room g s).Spells x a
unfolding shape_over
some-shape room g Whole = (name, a_leaf, some-expr room (g Whole) (g Inversion) (g Factor))
some-shape room g Inversion = (name, a_leaf, some-inversion room (g Whole) (g Inversion) (g Factor))
some-shape room g Factor = (name, a_leaf, some-factor room (g Whole) (g Factor))

known : (s : Shape) → has (shape_first s) (class a_name) ≡ true
known Whole = refl
known Inversion = refl
known Factor = refl

-- ---- every depth

pub nested-laws : (room n : ℕ) (s : Shape) → Laws class (nested room s) (nested (suc room) s) (nested n s) (shape_sets s)
nested-laws room n s = nest-laws class shape_first shape_more (λ r. shape_over) (λ t. a_name) known (λ r. some-shape) (λ r m. layer-laws) 0 0 room n s

pub shaped-laws : (s : Shape) (room n : ℕ) → Laws class (shaped s room) (shaped s (suc room)) (shaped s n) (shape_sets s)
unfolding shaped
shaped-laws s room n = layer-laws room n (nested room) (nested (suc room)) (nested n) (nested-laws room n) s

pub expr-laws : (room n : ℕ) → Laws class (expr room) (expr (suc room)) (expr n) expr_sets
expr-laws = shaped-laws Whole

-- what stands in a nesting has one less room
pub nested-is : (s : Shape) (room : ℕ) → 0 < room → nested room s ≡ shaped s (room - 1)
unfolding nest_shapes shaped
nested-is s zero h = absurd (omega arith)
nested-is s (suc room) h = let e : suc room - 1 ≡ room = omega arith in rw e refl

-- ---- what follows

pub expr-means : (room : ℕ) (ts : List Token) → Means expr room ts ((expr room).read ts)
expr-means room ts = verdict class expr expr_sets room (λ n. expr-laws room n) ts

pub one-expr : (x : List Token) (a b : Expr) → Spelled expr x a → Spelled expr x b → a ≡ b
one-expr = one_tree class expr expr_sets expr-laws
