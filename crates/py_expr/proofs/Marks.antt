-- Where a kind alone makes the class of a token, and where a value has a part in it.
use Rattle.std.proofs.Common.{◌≡◌, ◌≢◌, ℕ, zero, suc, ◌≤◌, Bool, true, false, cond, List, [], ◌∷◌, length, refl, ap, ◌∙◌, sym, arith}
use Rattle.std.proofs.lemmas.Bool.{false_from_ne_true, ne_eqb}
use Rattle.phrases.specs.Sets.{has}
use Rattle.rv_names.proofs.KeyLemmas.{bytes_equal-decides}
use Rattle.py_lexer.specs.declared.token.Kind.{Kind}
use Rattle.py_lexer.specs.declared.token.Kind.TheVariants as kinds
use Rattle.py_lexer.specs.declared.token.Value.{Value}
use Rattle.py_lexer.specs.declared.token.Value.TheVariants as values
use Rattle.py_lexer.specs.declared.token.Token.{Token}
use Rattle.py_ast.specs.Kinds.{is_super, class_of, class, code}
use Rattle.py_ast.specs.Tokens.{unary_codes, level_codes}
use Rattle.py_ast.specs.Grammar.{step_first, comparison_first}

-- a name of another length than that of `super`
pub other_length : (name : List ℕ) → length name ≢ 5 → is_super name ≡ false
other_length name h = false_from_ne_true (is_super name) (λ e. h (ap length ((bytes_equal-decides name (115 ∷ 117 ∷ 112 ∷ 101 ∷ 114 ∷ [])).0 e)))

class-is : (k : Kind) (v : Value) → code k ≢ 0 → class_of k v ≡ code k
class-is kinds.Name v h = absurd (h refl)
class-is kinds.Number v h = absurd (h refl)
class-is kinds.Text v h = absurd (h refl)
class-is kinds.FStringText v h = absurd (h refl)
class-is _ v h = refl

pub class_is : (t : Token) → code t.kind ≢ 0 → class t ≡ code t.kind
class_is t h = class-is t.kind t.value h

-- ---- In a set without the classes in which a value has a part, and without 0, a token's class and the code of its kind are alike.

none-there : (s : List ℕ) (b : Bool) → has s 0 ≡ false → has s 1 ≡ false → has s 2 ≡ false → has s (cond b 2 1) ≡ has s 0
none-there s true z o t = t ∙ sym z
none-there s false z o t = o ∙ sym z

mark-has : (s : List ℕ) (k : Kind) (v : Value) → has s 0 ≡ false → has s 1 ≡ false → has s 2 ≡ false → has s 3 ≡ false → has s 4 ≡ false → has s 11 ≡ false → has s (class_of k v) ≡ has s (code k)
mark-has s kinds.Name (values.Name n) a b c d e f = none-there s (is_super n) a b c
mark-has s kinds.Name _ a b c d e f = refl
mark-has s kinds.Number (values.Whole n) a b c d e f = d ∙ sym a
mark-has s kinds.Number _ a b c d e f = refl
mark-has s kinds.Text (values.Text n) a b c d e f = e ∙ sym a
mark-has s kinds.Text _ a b c d e f = refl
mark-has s kinds.FStringText (values.Text n) a b c d e f = f ∙ sym a
mark-has s kinds.FStringText _ a b c d e f = refl
mark-has s _ v a b c d e f = refl

pub mark_has : (s : List ℕ) (t : Token) → has s 0 ≡ false → has s 1 ≡ false → has s 2 ≡ false → has s 3 ≡ false → has s 4 ≡ false → has s 11 ≡ false → has s (class t) ≡ has s (code t.kind)
mark_has s t a b c d e f = mark-has s t.kind t.value a b c d e f

not-there : (c k : ℕ) → c ≢ k → has (c ∷ []) k ≡ false
not-there c k h = rw (ne_eqb c k h) refl

pub mark_is : (c : ℕ) (t : Token) → 5 ≤ c → c ≢ 11 → has (c ∷ []) (class t) ≡ has (c ∷ []) (code t.kind)
mark_is c t h n =
    mark_has (c ∷ []) t (not-there c 0 (λ e. omega (arith, h, e))) (not-there c 1 (λ e. omega (arith, h, e))) (not-there c 2 (λ e. omega (arith, h, e))) (not-there c 3 (λ e. omega (arith, h, e))) (not-there c 4 (λ e. omega (arith, h, e))) (not-there c 11 n)

pub level_is : (l : ℕ) (t : Token) → has (level_codes l) (class t) ≡ has (level_codes l) (code t.kind)
level_is zero t = mark_has (level_codes 0) t refl refl refl refl refl refl
level_is (suc zero) t = mark_has (level_codes 1) t refl refl refl refl refl refl
level_is (suc (suc zero)) t = mark_has (level_codes 2) t refl refl refl refl refl refl
level_is (suc (suc (suc zero))) t = mark_has (level_codes 3) t refl refl refl refl refl refl
level_is (suc (suc (suc (suc zero)))) t = mark_has (level_codes 4) t refl refl refl refl refl refl
level_is (suc (suc (suc (suc (suc l))))) t = mark_has (level_codes 5) t refl refl refl refl refl refl

pub unary_is : (t : Token) → has unary_codes (class t) ≡ has unary_codes (code t.kind)
unary_is t = mark_has unary_codes t refl refl refl refl refl refl

pub not_is : (t : Token) → has (41 ∷ []) (class t) ≡ has (41 ∷ []) (code t.kind)
not_is t = mark_has (41 ∷ []) t refl refl refl refl refl refl

pub power_is : (t : Token) → has (53 ∷ []) (class t) ≡ has (53 ∷ []) (code t.kind)
power_is t = mark_has (53 ∷ []) t refl refl refl refl refl refl

pub comparison_is : (t : Token) → has comparison_first (class t) ≡ has comparison_first (code t.kind)
comparison_is t = mark_has comparison_first t refl refl refl refl refl refl

pub and_is : (t : Token) → has (18 ∷ []) (class t) ≡ has (18 ∷ []) (code t.kind)
and_is t = mark_has (18 ∷ []) t refl refl refl refl refl refl

pub or_is : (t : Token) → has (42 ∷ []) (class t) ≡ has (42 ∷ []) (code t.kind)
or_is t = mark_has (42 ∷ []) t refl refl refl refl refl refl

pub if_is : (t : Token) → has (35 ∷ []) (class t) ≡ has (35 ∷ []) (code t.kind)
if_is t = mark_has (35 ∷ []) t refl refl refl refl refl refl

pub step_is : (callable : Bool) (t : Token) → has (step_first callable) (class t) ≡ has (step_first callable) (code t.kind)
step_is true t = mark_has (step_first true) t refl refl refl refl refl refl
step_is false t = mark_has (step_first false) t refl refl refl refl refl refl
