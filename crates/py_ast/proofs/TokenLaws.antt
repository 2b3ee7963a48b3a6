-- Each kind of token that the grammar asks for is one.
use Rattle.std.proofs.Common.{◌≡◌, ℕ, zero, suc, Bool, true, false, cond, List, [], ◌∷◌, Option, Some, None, refl}
use Rattle.phrases.specs.Laws.{Kind}
use Rattle.phrases.specs.Sets.{has, within}
use Rattle.phrases.proofs.Sets.{within-has}
use Rattle.py_literals.specs.declared.place.Pos.{Pos}
use Rattle.py_lexer.specs.declared.token.Kind as tokens
use Rattle.py_lexer.specs.declared.token.Kind.TheVariants as kinds
use Rattle.py_lexer.specs.declared.token.Value.{Value}
use Rattle.py_lexer.specs.declared.token.Value.TheVariants as values
use Rattle.py_lexer.specs.declared.token.Token.{Token}
use Rattle.py_ast.specs.Kinds.{is_super, name_class, class_of, class, code, pick, place_of, mark_of, placed, name_code, super_code, number_code, text_code, part_text_code}
use Rattle.py_ast.specs.Tokens.{leaf_codes, named_form, number_form, leaf_form, leaf_at, leaf_of, name_value, name_codes, name_of, text_value, text_of, part_value, part_text_of, unary_codes, unary_in, unary_operator_of, level_codes, binary_in, operator_of, comparator_codes, comparator_in, comparator_of}
use Rattle.py_ast.specs.Trees.{leaf}
use Rattle.py_ast.specs.declared.tree.BinaryOperator.{BinaryOperator}
use Rattle.py_ast.specs.declared.tree.BinaryOperator.TheVariants as operators
use Rattle.py_ast.specs.declared.tree.Comparator.{Comparator}
use Rattle.py_ast.specs.declared.tree.Comparator.TheVariants as comparators
use Rattle.py_ast.specs.declared.tree.Expr.{Expr}
use Rattle.py_ast.specs.declared.tree.Form.TheVariants as forms
use Rattle.py_ast.specs.declared.tree.NameAt.{NameAt}
use Rattle.py_ast.specs.declared.tree.Part.TheVariants as parts
use Rattle.py_ast.specs.declared.tree.Piece.{Piece}
use Rattle.py_ast.specs.declared.tree.Piece.TheVariants as pieces
use Rattle.py_ast.specs.declared.tree.UnaryOperator.{UnaryOperator}
use Rattle.py_ast.specs.declared.tree.UnaryOperator.TheVariants as unary_operators

abbrev pub some_place : Pos
some_place = record { line = 1; col = 1 }

abbrev pub some_token : tokens.Kind → Value → Token
some_token k v = record { kind = k; value = v; at = some_place }

-- ---- tokens of some classes

module _ {A : Type 0} (codes : List ℕ) (value : Token → Option A) where
  knows : (t : Token) (a : A) → pick codes value t ≡ Some a → has codes (class t) ≡ true
  knows t a e = by (has codes (class t)) refl e
    where
      by : (b : Bool) → has codes (class t) ≡ b → cond b (value t) None ≡ Some a → has codes (class t) ≡ true
      by true h k = h
      by false h k = absurd cc

  only : (t : Token) → (value t ≡ None → ⊥) → has codes (class t) ≡ true → pick codes value t ≡ None → ⊥
  only t some h e = by (has codes (class t)) h e
    where
      by : (b : Bool) → b ≡ true → cond b (value t) None ≡ None → ⊥
      by true h k = some k
      by false h k = absurd cc

  pub pick-kind : ((t : Token) → has codes (class t) ≡ true → value t ≡ None → ⊥) → (sample : Token) (a : A) → pick codes value sample ≡ Some a → Kind class (pick codes value) codes
  pick-kind some sample a e = record { knows = knows; only = λ t h k. only t (some t h) h k; sample = sample; value = a; is_one = e }

-- a token of which only the place matters
pub mark-kind : (k : tokens.Kind) → mark_of (code k) (some_token k values.Nothing) ≡ Some some_place → Kind class (mark_of (code k)) (code k ∷ [])
mark-kind k e = pick-kind (code k ∷ []) place_of (λ t h n. cc) (some_token k values.Nothing) some_place e

-- ---- names

name-only : (n : List ℕ) (b : Bool) → has name_codes (cond b 2 1) ≡ false → ⊥
name-only n true h = cc
name-only n false h = cc

value-is : (at : Pos) (k : tokens.Kind) (v : Value) → has name_codes (class_of k v) ≡ true → name_value at v ≡ None → ⊥
value-is at kinds.Name (values.Name n) h e = cc
value-is at kinds.Name values.Nothing h e = cc
value-is at kinds.Name (values.Text s) h e = cc
value-is at kinds.Name (values.Whole n) h e = cc
value-is at kinds.Number (values.Name n) h e = cc
value-is at kinds.Number values.Nothing h e = cc
value-is at kinds.Number (values.Text s) h e = cc
value-is at kinds.Number (values.Whole n) h e = cc
value-is at kinds.Text (values.Name n) h e = cc
value-is at kinds.Text values.Nothing h e = cc
value-is at kinds.Text (values.Text s) h e = cc
value-is at kinds.Text (values.Whole n) h e = cc
value-is at kinds.FStringText (values.Text s) h e = cc
value-is at kinds.FStringText values.Nothing h e = cc
value-is at kinds.FStringText (values.Name n) h e = cc
value-is at kinds.FStringText (values.Whole n) h e = cc
value-is at _ v h e = cc

abbrev pub a_name : Token
a_name = some_token kinds.Name (values.Name (97 ∷ []))

abbrev super_name : List ℕ
super_name = 115 ∷ 117 ∷ 112 ∷ 101 ∷ 114 ∷ []

pub names-kind : Kind class (name_of name_codes) name_codes
names-kind = pick-kind name_codes (λ t. name_value t.at t.value) (λ t h e. value-is t.at t.kind t.value h e) a_name (record { name = 97 ∷ []; at = some_place }) refl

pub super-kind : Kind class (name_of (super_code ∷ [])) (super_code ∷ [])
super-kind =
    pick-kind (super_code ∷ []) (λ t. name_value t.at t.value) (λ t h e. value-is t.at t.kind t.value (within-has (super_code ∷ []) name_codes (class t) refl h) e)
    (some_token kinds.Name (values.Name super_name)) (record { name = super_name; at = some_place }) refl

pub plain-name-kind : Kind class (name_of (name_code ∷ [])) (name_code ∷ [])
plain-name-kind =
    pick-kind (name_code ∷ []) (λ t. name_value t.at t.value) (λ t h e. value-is t.at t.kind t.value (within-has (name_code ∷ []) name_codes (class t) refl h) e) a_name
    (record { name = 97 ∷ []; at = some_place }) refl

-- ---- texts

text-is : (at : Pos) (k : tokens.Kind) (v : Value) → has (text_code ∷ []) (class_of k v) ≡ true → text_value at v ≡ None → ⊥
text-is at kinds.Name (values.Name n) h e = by (is_super n) h
  where
    by : (b : Bool) → has (text_code ∷ []) (cond b 2 1) ≡ true → ⊥
    by true h = cc
    by false h = cc
text-is at kinds.Name values.Nothing h e = cc
text-is at kinds.Name (values.Text s) h e = cc
text-is at kinds.Name (values.Whole n) h e = cc
text-is at kinds.Number (values.Name n) h e = cc
text-is at kinds.Number values.Nothing h e = cc
text-is at kinds.Number (values.Text s) h e = cc
text-is at kinds.Number (values.Whole n) h e = cc
text-is at kinds.Text (values.Name n) h e = cc
text-is at kinds.Text values.Nothing h e = cc
text-is at kinds.Text (values.Text s) h e = cc
text-is at kinds.Text (values.Whole n) h e = cc
text-is at kinds.FStringText (values.Text s) h e = cc
text-is at kinds.FStringText values.Nothing h e = cc
text-is at kinds.FStringText (values.Name n) h e = cc
text-is at kinds.FStringText (values.Whole n) h e = cc
text-is at _ v h e = cc

pub text-kind : Kind class text_of (text_code ∷ [])
text-kind = pick-kind (text_code ∷ []) (λ t. text_value t.at t.value) (λ t h e. text-is t.at t.kind t.value h e) (some_token kinds.Text (values.Text [])) (some_place, pieces.Plain []) refl

part-is : (k : tokens.Kind) (v : Value) → has (part_text_code ∷ []) (class_of k v) ≡ true → part_value v ≡ None → ⊥
part-is kinds.Name (values.Name n) h e = by (is_super n) h
  where
    by : (b : Bool) → has (part_text_code ∷ []) (cond b 2 1) ≡ true → ⊥
    by true h = cc
    by false h = cc
part-is kinds.Name values.Nothing h e = cc
part-is kinds.Name (values.Text s) h e = cc
part-is kinds.Name (values.Whole n) h e = cc
part-is kinds.Number (values.Name n) h e = cc
part-is kinds.Number values.Nothing h e = cc
part-is kinds.Number (values.Text s) h e = cc
part-is kinds.Number (values.Whole n) h e = cc
part-is kinds.Text (values.Name n) h e = cc
part-is kinds.Text values.Nothing h e = cc
part-is kinds.Text (values.Text s) h e = cc
part-is kinds.Text (values.Whole n) h e = cc
part-is kinds.FStringText (values.Name n) h e = cc
part-is kinds.FStringText values.Nothing h e = cc
part-is kinds.FStringText (values.Text s) h e = cc
part-is kinds.FStringText (values.Whole n) h e = cc
part-is _ v h e = cc

pub part-kind : Kind class part_text_of (part_text_code ∷ [])
part-kind = pick-kind (part_text_code ∷ []) (λ t. part_value t.value) (λ t h e. part-is t.kind t.value h e) (some_token kinds.FStringText (values.Text [])) (parts.Text []) refl

-- ---- atoms of one token

pub leaf-is : (at : Pos) (k : tokens.Kind) (v : Value) → has leaf_codes (class_of k v) ≡ true → leaf_at (leaf_form k v) at ≡ None → ⊥
leaf-is at kinds.Name (values.Name n) h e = cc
leaf-is at kinds.Name values.Nothing h e = cc
leaf-is at kinds.Name (values.Text s) h e = cc
leaf-is at kinds.Name (values.Whole n) h e = cc
leaf-is at kinds.Number (values.Name n) h e = cc
leaf-is at kinds.Number values.Nothing h e = cc
leaf-is at kinds.Number (values.Text s) h e = cc
leaf-is at kinds.Number (values.Whole n) h e = cc
leaf-is at kinds.Text (values.Name n) h e = cc
leaf-is at kinds.Text values.Nothing h e = cc
leaf-is at kinds.Text (values.Text s) h e = cc
leaf-is at kinds.Text (values.Whole n) h e = cc
leaf-is at kinds.FStringText (values.Text s) h e = cc
leaf-is at kinds.FStringText values.Nothing h e = cc
leaf-is at kinds.FStringText (values.Name n) h e = cc
leaf-is at kinds.FStringText (values.Whole n) h e = cc
leaf-is at _ v h e = cc

pub leaf-kind : Kind class leaf_of leaf_codes
leaf-kind = pick-kind leaf_codes (λ t. leaf_at (leaf_form t.kind t.value) t.at) (λ t h e. leaf-is t.at t.kind t.value h e) a_name (leaf some_place (forms.Name (97 ∷ []))) refl

-- ---- operators

pub placed-some : {A : Type 0} (o : Option A) (at : Pos) → (o ≡ None → ⊥) → placed o at ≡ None → ⊥
placed-some None at some e = some refl
placed-some (Some a) at some e = cc

-- the classes of tokens that carry a value are those of no operator
pub no-name : (codes : List ℕ) (v : Value) → has codes 0 ≡ false → has codes 1 ≡ false → has codes 2 ≡ false → has codes (name_class v) ≡ true → ⊥
no-name codes (values.Name n) zeros ones twos h = by (is_super n) h
  where
    by : (b : Bool) → has codes (cond b 2 1) ≡ true → ⊥
    by true h = cc
    by false h = cc
no-name codes values.Nothing zeros ones twos h = cc
no-name codes (values.Text s) zeros ones twos h = cc
no-name codes (values.Whole n) zeros ones twos h = cc

unary-is : (k : tokens.Kind) (v : Value) → has unary_codes (class_of k v) ≡ true → unary_in k ≡ None → ⊥
unary-is kinds.Name v h e = no-name unary_codes v refl refl refl h
unary-is kinds.Number (values.Whole n) h e = cc
unary-is kinds.Number values.Nothing h e = cc
unary-is kinds.Number (values.Text s) h e = cc
unary-is kinds.Number (values.Name n) h e = cc
unary-is kinds.Text (values.Whole n) h e = cc
unary-is kinds.Text values.Nothing h e = cc
unary-is kinds.Text (values.Text s) h e = cc
unary-is kinds.Text (values.Name n) h e = cc
unary-is kinds.FStringText (values.Text s) h e = cc
unary-is kinds.FStringText values.Nothing h e = cc
unary-is kinds.FStringText (values.Name n) h e = cc
unary-is kinds.FStringText (values.Whole n) h e = cc
unary-is _ v h e = cc

pub unary-kind : Kind class unary_operator_of unary_codes
unary-kind =
    pick-kind unary_codes (λ t. placed (unary_in t.kind) t.at) (λ t h. placed-some (unary_in t.kind) t.at (unary-is t.kind t.value h))
    (some_token kinds.Plus values.Nothing) (unary_operators.Plus, some_place) refl

-- all binary operators
abbrev binary_codes : List ℕ
binary_codes =
    code kinds.Star ∷ code kinds.At ∷ code kinds.Slash ∷ code kinds.DoubleSlash ∷ code kinds.Percent ∷ code kinds.Plus ∷ code kinds.Minus ∷ code kinds.LeftShift ∷ code kinds.RightShift
    ∷ code kinds.Ampersand ∷ code kinds.Caret ∷ code kinds.Bar ∷ []

binary-is : (k : tokens.Kind) (v : Value) → has binary_codes (class_of k v) ≡ true → binary_in k ≡ None → ⊥
binary-is kinds.Name v h e = no-name binary_codes v refl refl refl h
binary-is kinds.Number (values.Whole n) h e = cc
binary-is kinds.Number values.Nothing h e = cc
binary-is kinds.Number (values.Text s) h e = cc
binary-is kinds.Number (values.Name n) h e = cc
binary-is kinds.Text (values.Whole n) h e = cc
binary-is kinds.Text values.Nothing h e = cc
binary-is kinds.Text (values.Text s) h e = cc
binary-is kinds.Text (values.Name n) h e = cc
binary-is kinds.FStringText (values.Text s) h e = cc
binary-is kinds.FStringText values.Nothing h e = cc
binary-is kinds.FStringText (values.Name n) h e = cc
binary-is kinds.FStringText (values.Whole n) h e = cc
binary-is _ v h e = cc

level-kind : (l : ℕ) (k : tokens.Kind) (o : BinaryOperator) → within (level_codes l) binary_codes ≡ true → operator_of l (some_token k values.Nothing) ≡ Some (o, some_place) → Kind class (operator_of l) (level_codes l)
level-kind l k o inside e =
    pick-kind (level_codes l) (λ t. placed (binary_in t.kind) t.at) (λ t h. placed-some (binary_in t.kind) t.at (binary-is t.kind t.value (within-has (level_codes l) binary_codes (class t) inside h)))
    (some_token k values.Nothing) (o, some_place) e

pub operator-kind : (l : ℕ) → Kind class (operator_of l) (level_codes l)
operator-kind zero = level-kind 0 kinds.Star operators.Multiply refl refl
operator-kind (suc zero) = level-kind 1 kinds.Plus operators.Add refl refl
operator-kind (suc (suc zero)) = level-kind 2 kinds.LeftShift operators.LeftShift refl refl
operator-kind (suc (suc (suc zero))) = level-kind 3 kinds.Ampersand operators.BitAnd refl refl
operator-kind (suc (suc (suc (suc zero)))) = level-kind 4 kinds.Caret operators.BitXor refl refl
operator-kind (suc (suc (suc (suc (suc l))))) = level-kind (suc (suc (suc (suc (suc l))))) kinds.Bar operators.BitOr refl refl

comparator-is : (k : tokens.Kind) (v : Value) → has comparator_codes (class_of k v) ≡ true → comparator_in k ≡ None → ⊥
comparator-is kinds.Name v h e = no-name comparator_codes v refl refl refl h
comparator-is kinds.Number (values.Whole n) h e = cc
comparator-is kinds.Number values.Nothing h e = cc
comparator-is kinds.Number (values.Text s) h e = cc
comparator-is kinds.Number (values.Name n) h e = cc
comparator-is kinds.Text (values.Whole n) h e = cc
comparator-is kinds.Text values.Nothing h e = cc
comparator-is kinds.Text (values.Text s) h e = cc
comparator-is kinds.Text (values.Name n) h e = cc
comparator-is kinds.FStringText (values.Text s) h e = cc
comparator-is kinds.FStringText values.Nothing h e = cc
comparator-is kinds.FStringText (values.Name n) h e = cc
comparator-is kinds.FStringText (values.Whole n) h e = cc
comparator-is _ v h e = cc

pub comparator-kind : Kind class comparator_of comparator_codes
comparator-kind =
    pick-kind comparator_codes (λ t. placed (comparator_in t.kind) t.at) (λ t h. placed-some (comparator_in t.kind) t.at (comparator-is t.kind t.value h))
    (some_token kinds.Less values.Nothing) (comparators.Less, some_place) refl
