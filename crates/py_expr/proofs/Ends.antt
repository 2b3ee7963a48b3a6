-- What ends with its first operand: primaries, powers, lists and arguments behind which nothing goes on, and an expression of one token.
use Rattle.std.proofs.Common.{◌≡◌, ℕ, Bool, true, false, List, [], ◌∷◌, drop, Option, Some, None, refl, sym, ◌∙◌}
use Rattle.phrases.specs.Sets.{starts, apart}
use Rattle.phrases.specs.Reading.{Outcome, Read, Stuck, read_many}
use Rattle.phrases.specs.Series.{read_run}
use Rattle.phrases.specs.Phrases.{Phrase, token, sequence, many}
use Rattle.phrases.specs.Loops.{Fails}
use Rattle.phrases.specs.declared.fault.Fault.{Fault}
use Rattle.phrases.specs.declared.fault.Stop.{Stop}
use Rattle.phrases.specs.declared.fault.Stop.TheVariants as reasons
use Rattle.phrases.proofs.Sets.{apart_has, has_left, has_in_left}
use Rattle.py_literals.specs.declared.place.Pos.{Pos}
use Rattle.py_lexer.specs.declared.token.Token.{Token}
use Rattle.py_ast.specs.declared.tree.Expr.{Expr}
use Rattle.py_ast.specs.declared.tree.NameAt.{NameAt}
use Rattle.py_ast.specs.declared.tree.Piece.{Piece}
use Rattle.py_ast.specs.Kinds.{class}
use Rattle.py_ast.specs.Tokens.{leaf_codes, leaf_of, text_of, unary_codes, level_codes}
use Rattle.py_ast.specs.Trees.{is_callee, postfix_of, power_of, strings_of}
use Rattle.py_ast.specs.Grammar.{Inversion, Factor, shaped, nested, Whole, expr, binary, comparison_first, comparison, after_argument, step_first, step_next, step, chain, string_first, piece, strings, atom, primary, exponent, power, factor_over, inversion_over, comma_first, expr_first, comma_item, comma_items, goes_past, both, mapped, items, exprs}
use Rattle.py_ast.proofs.TokenLaws.{leaf-kind, text-kind}
use Rattle.py_expr.proofs.Nestings.{inversion_is, factor_is}
use Rattle.py_expr.proofs.Alone.{binary_fails, comparison_alone, comparison_fails, disjunction_fails, expr_alone, expr_fails}

-- the second phrase goes on where the first ends
both-read : {A B C : Type 0} (g : Phrase Token A) (h : A → Phrase Token B) (f : A → B → C) (ts : List Token) (v : A) (y : List Token) (w : B) (z : List Token) → g.read ts ≡ Read v y → (h v).read y ≡ Read w z → (sequence g h f).read ts ≡ Read (f v w) z
both-read g h f ts v y w z e k = rw (e, k) refl

-- ---- arguments: one with no `=` behind its first expression is that expression

pub after_alone : (e : Phrase Token Expr) (n : Option NameAt) (y : List Token) → starts class (81 ∷ []) y ≡ false → (after_argument e n).read y ≡ Read None y
unfolding after_argument
after_alone e None y h = refl
after_alone e (Some n) y h = rw h refl

-- ---- primaries and powers

-- where no item begins, a series has none
no-run : {A S : Type 0} (first : S → List ℕ) (p : S → List Token → Outcome Token A) (next : S → A → Option S) (s : S) (y : List Token) → starts class (first s) y ≡ false → read_run class first p next s y ≡ Read [] y
no-run first p next s [] e = refl
no-run first p next s (t ∷ y) e = rw e refl

-- where no comma stands behind an expression, there is one
items-alone : (e : Phrase Token Expr) (ts : List Token) (v : Expr) (y : List Token) → e.read ts ≡ Read v y → starts class (77 ∷ []) y ≡ false → (items e).read ts ≡ Read (v, []) y
unfolding items comma_items
items-alone e ts v y h k =
    both-read e (λ a. comma_items (λ s. expr_first) (λ s. e) (λ a. tt {0}) (tt {0})) both ts v y [] y h (no-run (λ s. comma_first) (λ s. (comma_item expr_first e).read) (λ s i. goes_past (λ a. tt {0}) i) (tt {0}) y k)

pub exprs_alone : (e : Phrase Token Expr) (ts : List Token) (v : Expr) (y : List Token) → e.read ts ≡ Read v y → starts class (77 ∷ []) y ≡ false → (exprs e).read ts ≡ Read v y
unfolding exprs mapped
exprs_alone e ts v y h k = rw (items-alone e ts v y h k) refl

exprs-stuck : (e : Phrase Token Expr) (ts : List Token) (w : Fault) (y : List Token) → e.read ts ≡ Stuck w y → (exprs e).read ts ≡ Stuck w y
unfolding exprs mapped items
exprs-stuck e ts w y h = rw h refl

pub exprs_fails : (e : Phrase Token Expr) (ts : List Token) (s : Stop Token) → Fails s (e.read ts) → Fails s ((exprs e).read ts)
exprs_fails e ts reasons.Memory h = tt
exprs_fails e ts (reasons.Fault w y) h = exprs-stuck e ts w y.now h

-- what is no step of a primary that may be called is none of another
no-step : (callable : Bool) (y : List Token) → starts class (step_first true) y ≡ false → starts class (step_first callable) y ≡ false
no-step true y h = h
no-step false [] h = refl
no-step false (t ∷ y) h = has_left (step_first false) (71 ∷ []) (class t) h

chain-alone : (room : ℕ) (e : Phrase Token Expr) (callable : Bool) (y : List Token) → starts class (step_first true) y ≡ false → (chain room e callable).read y ≡ Read [] y
unfolding chain
chain-alone room e callable y h = no-run step_first (λ s. (step room e s).read) step_next callable y (no-step callable y h)

pub primary_alone : (room : ℕ) (e : Phrase Token Expr) (ts : List Token) (v : Expr) (y : List Token) → (atom room e).read ts ≡ Read v y → starts class (step_first true) y ≡ false → (primary room e).read ts ≡ Read v y
unfolding primary
primary_alone room e ts v y h k = both-read (atom room e) (λ a. chain room e (is_callee a)) postfix_of ts v y [] y h (chain-alone room e (is_callee v) y k)

exponent-alone : (room : ℕ) (f : Phrase Token Expr) (y : List Token) → starts class (53 ∷ []) y ≡ false → (exponent room f).read y ≡ Read None y
unfolding exponent
exponent-alone room f y k = rw k refl

pub power_alone : (room : ℕ) (e f : Phrase Token Expr) (ts : List Token) (v : Expr) (y : List Token) → (primary room e).read ts ≡ Read v y → starts class (53 ∷ []) y ≡ false → (power room e f).read ts ≡ Read v y
unfolding power
power_alone room e f ts v y h k = both-read (primary room e) (λ a. exponent room f) power_of ts v y None y h (exponent-alone room f y k)

primary-stuck : (room : ℕ) (e : Phrase Token Expr) (ts : List Token) (w : Fault) (y : List Token) → (atom room e).read ts ≡ Stuck w y → (primary room e).read ts ≡ Stuck w y
unfolding primary
primary-stuck room e ts w y h = rw h refl

pub primary_fails : (room : ℕ) (e : Phrase Token Expr) (ts : List Token) (s : Stop Token) → Fails s ((atom room e).read ts) → Fails s ((primary room e).read ts)
primary_fails room e ts reasons.Memory h = tt
primary_fails room e ts (reasons.Fault w y) h = primary-stuck room e ts w y.now h

power-stuck : (room : ℕ) (e f : Phrase Token Expr) (ts : List Token) (w : Fault) (y : List Token) → (primary room e).read ts ≡ Stuck w y → (power room e f).read ts ≡ Stuck w y
unfolding power
power-stuck room e f ts w y h = rw h refl

pub power_fails : (room : ℕ) (e f : Phrase Token Expr) (ts : List Token) (s : Stop Token) → Fails s ((primary room e).read ts) → Fails s ((power room e f).read ts)
power_fails room e f ts reasons.Memory h = tt
power_fails room e f ts (reasons.Fault w y) h = power-stuck room e f ts w y.now h

-- ---- an expression of one token

-- a token that is an atom begins no unary operator, and is no `not`
leaf-only : (s : List ℕ) (ts : List Token) → apart leaf_codes s ≡ true → starts class leaf_codes ts ≡ true → starts class s ts ≡ false
leaf-only s [] e h = refl
leaf-only s (t ∷ ts) e h = apart_has leaf_codes s (class t) e h

atom-leaf : (room : ℕ) (e : Phrase Token Expr) (ts : List Token) → starts class leaf_codes ts ≡ true → (atom room e).read ts ≡ (token leaf_of).read ts
unfolding atom
atom-leaf room e ts h = rw h refl

factor-alone : (room : ℕ) (ts : List Token) (v : Expr) (y : List Token) → (power room (nested room Whole) (nested room Factor)).read ts ≡ Read v y → starts class unary_codes ts ≡ false → (shaped Factor room).read ts ≡ Read v y
unfolding factor_over
factor-alone room ts v y h k = factor_is room ts ∙ rw k h

inversion-alone : (room : ℕ) (ts : List Token) (v : Expr) (y : List Token) → (comparison (binary 6 (shaped Factor room))).read ts ≡ Read v y → starts class (41 ∷ []) ts ≡ false → (shaped Inversion room).read ts ≡ Read v y
unfolding inversion_over
inversion-alone room ts v y h k = inversion_is room ts ∙ rw k h

-- an expression that begins with a primary: nothing goes on behind that, or a looser level does, or one is stuck
pub factor_alone : (room : ℕ) (ts : List Token) (v : Expr) (y : List Token) → starts class unary_codes ts ≡ false → (power room (nested room Whole) (nested room Factor)).read ts ≡ Read v y → (shaped Factor room).read ts ≡ Read v y
factor_alone room ts v y k h = factor-alone room ts v y h k

pub inversion_alone : (room : ℕ) (ts : List Token) (v : Expr) (y : List Token) → starts class (41 ∷ []) ts ≡ false → (comparison (binary 6 (shaped Factor room))).read ts ≡ Read v y → (shaped Inversion room).read ts ≡ Read v y
inversion_alone room ts v y k h = inversion-alone room ts v y h k

pub expr_comparison : (room : ℕ) (ts : List Token) (v : Expr) (y : List Token) → starts class (41 ∷ []) ts ≡ false → (comparison (binary 6 (shaped Factor room))).read ts ≡ Read v y → starts class (18 ∷ []) y ≡ false → starts class (42 ∷ []) y ≡ false → starts class (35 ∷ []) y ≡ false → (expr room).read ts ≡ Read v y
expr_comparison room ts v y k h a o c = expr_alone room ts v y (inversion-alone room ts v y h k) a o c

pub expr_primary : (room : ℕ) (ts : List Token) (v : Expr) (y : List Token) → starts class unary_codes ts ≡ false → starts class (41 ∷ []) ts ≡ false → (primary room (nested room Whole)).read ts ≡ Read v y → starts class (53 ∷ []) y ≡ false → ((level : ℕ) → starts class (level_codes level) y ≡ false) → starts class comparison_first y ≡ false → starts class (18 ∷ []) y ≡ false → starts class (42 ∷ []) y ≡ false → starts class (35 ∷ []) y ≡ false → (expr room).read ts ≡ Read v y
expr_primary room ts v y u n h p b d a o c =
    let w : (power room (nested room Whole) (nested room Factor)).read ts ≡ Read v y = power_alone room (nested room Whole) (nested room Factor) ts v y h p in
    let f : (shaped Factor room).read ts ≡ Read v y = factor-alone room ts v y w u in
    expr_comparison room ts v y n (comparison_alone (shaped Factor room) ts v y f b d) a o c

factor-fails : (room : ℕ) (ts : List Token) (s : Stop Token) → starts class unary_codes ts ≡ false → Fails s ((power room (nested room Whole) (nested room Factor)).read ts) → Fails s ((shaped Factor room).read ts)
unfolding factor_over
factor-fails room ts s k h = rw (factor_is room ts) (rw k h)

inversion-fails : (room : ℕ) (ts : List Token) (s : Stop Token) → starts class (41 ∷ []) ts ≡ false → Fails s ((comparison (binary 6 (shaped Factor room))).read ts) → Fails s ((shaped Inversion room).read ts)
unfolding inversion_over
inversion-fails room ts s k h = rw (inversion_is room ts) (rw k h)

pub comparison_stops : (room : ℕ) (ts : List Token) (s : Stop Token) → starts class (41 ∷ []) ts ≡ false → Fails s ((comparison (binary 6 (shaped Factor room))).read ts) → Fails s ((expr room).read ts)
comparison_stops room ts s n h = expr_fails room ts s (disjunction_fails (shaped Inversion room) ts s (inversion-fails room ts s n h))

pub power_stops : (room : ℕ) (ts : List Token) (s : Stop Token) → starts class unary_codes ts ≡ false → starts class (41 ∷ []) ts ≡ false → Fails s ((power room (nested room Whole) (nested room Factor)).read ts) → Fails s ((expr room).read ts)
power_stops room ts s u n h =
    let f : Fails s ((shaped Factor room).read ts) = factor-fails room ts s u h in
    comparison_stops room ts s n (comparison_fails (binary 6 (shaped Factor room)) ts s (binary_fails 6 (shaped Factor room) ts s f))

pub primary_stops : (room : ℕ) (ts : List Token) (s : Stop Token) → starts class unary_codes ts ≡ false → starts class (41 ∷ []) ts ≡ false → Fails s ((primary room (nested room Whole)).read ts) → Fails s ((expr room).read ts)
primary_stops room ts s u n h = power_stops room ts s u n (power_fails room (nested room Whole) (nested room Factor) ts s h)

-- what no token behind it goes on with
pub record Ends (y : List Token) : Type 0 where
  pub step : starts class (step_first true) y ≡ false
  pub exponent : starts class (53 ∷ []) y ≡ false
  pub binary : (level : ℕ) → starts class (level_codes level) y ≡ false
  pub comparison : starts class comparison_first y ≡ false
  pub conjunction : starts class (18 ∷ []) y ≡ false
  pub disjunction : starts class (42 ∷ []) y ≡ false
  pub choice : starts class (35 ∷ []) y ≡ false

leaf-read : (room : ℕ) (ts : List Token) (v : Expr) (y : List Token) → starts class leaf_codes ts ≡ true → (token leaf_of).read ts ≡ Read v y → Ends y → (expr room).read ts ≡ Read v y
leaf-read room ts v y h r e =
    let p : (primary room (nested room Whole)).read ts ≡ Read v y = primary_alone room (nested room Whole) ts v y (atom-leaf room (nested room Whole) ts h ∙ r) e.step in
    expr_primary room ts v y (leaf-only unary_codes ts refl h) (leaf-only (41 ∷ []) ts refl h) p e.exponent e.binary e.comparison e.conjunction e.disjunction e.choice

pub expr_leaf : (room : ℕ) (ts : List Token) → starts class leaf_codes ts ≡ true → Ends (drop 1 ts) → (expr room).read ts ≡ (token leaf_of).read ts
expr_leaf room [] h e = absurd cc
expr_leaf room (t ∷ y) h e = by (leaf_of t) refl
  where
    by : (o : Option Expr) → leaf_of t ≡ o → (expr room).read (t ∷ y) ≡ (token leaf_of).read (t ∷ y)
    by None k = absurd (leaf-kind.only t h k)
    by (Some v) k = let r : (token leaf_of).read (t ∷ y) ≡ Read v y = rw k refl in leaf-read room (t ∷ y) v y h r e ∙ sym r

-- ---- a string alone

-- where no phrase begins, none is read
no-many : {A : Type 0} (first : List ℕ) (p : List Token → Outcome Token A) (y : List Token) → starts class first y ≡ false → read_many class first p y ≡ Read [] y
no-many first p [] e = refl
no-many first p (t ∷ y) e = rw e refl

mapped-read : {A B : Type 0} (g : Phrase Token A) (f : A → B) (ts : List Token) (a : A) (y : List Token) → g.read ts ≡ Read a y → (mapped g f).read ts ≡ Read (f a) y
unfolding mapped
mapped-read g f ts a y h = rw h refl

-- a text is a string, and begins nothing else
text-string : (ts : List Token) → starts class (4 ∷ []) ts ≡ true → starts class string_first ts ≡ true
text-string [] h = h
text-string (t ∷ ts) h = has_in_left (4 ∷ []) (10 ∷ []) (class t) h

text-only : (s : List ℕ) (ts : List Token) → apart (4 ∷ []) s ≡ true → starts class (4 ∷ []) ts ≡ true → starts class s ts ≡ false
text-only s [] e h = refl
text-only s (t ∷ ts) e h = apart_has (4 ∷ []) s (class t) e h

piece-text : (room : ℕ) (e : Phrase Token Expr) (ts : List Token) → starts class (4 ∷ []) ts ≡ true → (piece room e).read ts ≡ (token text_of).read ts
unfolding piece
piece-text room e ts h = rw h refl

strings-alone : (room : ℕ) (e : Phrase Token Expr) (ts : List Token) (p : Pos × Piece) (y : List Token) → (piece room e).read ts ≡ Read p y → starts class string_first y ≡ false → (strings room e).read ts ≡ Read (strings_of p []) y
unfolding strings
strings-alone room e ts p y h k = both-read (piece room e) (λ a. many class string_first (piece room e)) strings_of ts p y [] y h (no-many string_first (piece room e).read y k)

atom-string : (room : ℕ) (e : Phrase Token Expr) (ts : List Token) → starts class leaf_codes ts ≡ false → starts class string_first ts ≡ true → (atom room e).read ts ≡ (strings room e).read ts
unfolding atom
atom-string room e ts n h = rw (n, h) refl

text-read : (room : ℕ) (ts : List Token) (p : Pos × Piece) (y : List Token) → starts class (4 ∷ []) ts ≡ true → (token text_of).read ts ≡ Read p y → starts class string_first y ≡ false → Ends y → (expr room).read ts ≡ Read (strings_of p []) y
text-read room ts p y h r s e =
    let q : (piece room (nested room Whole)).read ts ≡ Read p y = piece-text room (nested room Whole) ts h ∙ r in
    let a : (atom room (nested room Whole)).read ts ≡ Read (strings_of p []) y = atom-string room (nested room Whole) ts (text-only leaf_codes ts refl h) (text-string ts h) ∙ strings-alone room (nested room Whole) ts p y q s in
    let w : (primary room (nested room Whole)).read ts ≡ Read (strings_of p []) y = primary_alone room (nested room Whole) ts (strings_of p []) y a e.step in
    expr_primary room ts (strings_of p []) y (text-only unary_codes ts refl h) (text-only (41 ∷ []) ts refl h) w e.exponent e.binary e.comparison e.conjunction e.disjunction e.choice

pub expr_text : (room : ℕ) (ts : List Token) → starts class (4 ∷ []) ts ≡ true → starts class string_first (drop 1 ts) ≡ false → Ends (drop 1 ts) → (expr room).read ts ≡ (mapped (token text_of) (λ p. strings_of p [])).read ts
expr_text room [] h s e = absurd cc
expr_text room (t ∷ y) h s e = by (text_of t) refl
  where
    by : (o : Option (Pos × Piece)) → text_of t ≡ o → (expr room).read (t ∷ y) ≡ (mapped (token text_of) (λ p. strings_of p [])).read (t ∷ y)
    by None k = absurd (text-kind.only t h k)
    by (Some p) k =
        let r : (token text_of).read (t ∷ y) ≡ Read p y = rw k refl in
        text-read room (t ∷ y) p y h r s e ∙ sym (mapped-read (token text_of) (λ q. strings_of q []) (t ∷ y) p y r)
