-- What is read of a name that is not `super`.
use Rattle.std.proofs.Common.{◌≡◌, ℕ, Bool, true, false, ◌||◌, List, [], ◌∷◌, Option, None, refl, sym, ap, ◌∙◌}
use Rattle.phrases.specs.Sets.{has, starts}
use Rattle.phrases.specs.Phrases.{token}
use Rattle.phrases.specs.Reading.{Stuck, read_token}
use Rattle.phrases.specs.declared.fault.Fault.TheVariants.{Syntax}
use Rattle.py_lexer.specs.declared.token.Token.{Token}
use Rattle.py_ast.specs.Kinds.{class, pick}
use Rattle.py_ast.specs.Tokens.{name_codes, name_of, name_value}
use Rattle.py_ast.specs.declared.tree.NameAt.{NameAt}

picked : (codes : List ℕ) (value : Token → Option NameAt) (t : Token) → has codes (class t) ≡ true → pick codes value t ≡ value t
picked codes value t h = rw h refl

passed : (codes : List ℕ) (value : Token → Option NameAt) (t : Token) → has codes (class t) ≡ false → pick codes value t ≡ None
passed codes value t h = rw h refl

first-of : (b c : Bool) → (b || false) ≡ true → (b || (c || false)) ≡ true
first-of true c h = refl
first-of false c h = cc

one-of : (k : ℕ) → has (1 ∷ []) k ≡ true → has name_codes k ≡ true
one-of k h = first-of _ _ h

pub plain_name : (ts : List Token) → starts class (1 ∷ []) ts ≡ true → (token (name_of (1 ∷ []))).read ts ≡ (token (name_of name_codes)).read ts
plain_name [] h = cc
plain_name (t ∷ ts) h =
    ap (λ (o : Option NameAt). read_token o t ts) (picked (1 ∷ []) (λ k. name_value k.at k.value) t h ∙ sym (picked name_codes (λ k. name_value k.at k.value) t (one-of (class t) h)))

pub no_plain_name : (ts : List Token) → starts class (1 ∷ []) ts ≡ false → (token (name_of (1 ∷ []))).read ts ≡ Stuck Syntax ts
no_plain_name [] h = refl
no_plain_name (t ∷ ts) h = ap (λ (o : Option NameAt). read_token o t ts) (passed (1 ∷ []) (λ k. name_value k.at k.value) t h)
