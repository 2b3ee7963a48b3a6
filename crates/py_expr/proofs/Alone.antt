-- What is read behind a first operand: nothing where no operator stands there, and else what the looser levels read.
use Rattle.std.proofs.Common.{◌≡◌, ℕ, suc, zero, ◌+◌, ◌-◌, ◌<◌, List, [], ◌∷◌, Option, false, refl, ◌∙◌, arith}
use Rattle.phrases.specs.Sets.{starts}
use Rattle.phrases.specs.Reading.{Outcome, Read, Stuck, read_many}
use Rattle.phrases.specs.Phrases.{Phrase, sequence, many}
use Rattle.phrases.specs.Loops.{Fails}
use Rattle.phrases.specs.declared.fault.Fault.{Fault}
use Rattle.phrases.specs.declared.fault.Stop.{Stop}
use Rattle.phrases.specs.declared.fault.Stop.TheVariants as reasons
use Rattle.py_literals.specs.declared.place.Pos.{Pos}
use Rattle.py_lexer.specs.declared.token.Token.{Token}
use Rattle.py_ast.specs.declared.tree.Expr.{Expr}
use Rattle.py_ast.specs.declared.tree.Operand.{Operand}
use Rattle.py_ast.specs.Kinds.{class}
use Rattle.py_ast.specs.Tokens.{level_codes}
use Rattle.py_ast.specs.Trees.{binary_of, comparison_of, and_of, or_of, conditional_of}
use Rattle.py_ast.specs.Grammar.{Inversion, Factor, shaped, nested, Whole, expr, operand, level, binary, comparison_first, compared, comparison, joined, conjunction, disjunction, choice, conditional}
use Rattle.py_expr.proofs.Nestings.{expr_is, binary_is}

-- ---- one phrase, and then another

-- the second goes on where the first ends
both-read : {A B : Type 0} (g : Phrase Token A) (h : A → Phrase Token B) (f : A → B → A) (ts : List Token) (v : A) (y : List Token) (w : B) (z : List Token) → g.read ts ≡ Read v y → (h v).read y ≡ Read w z → (sequence g h f).read ts ≡ Read (f v w) z
both-read g h f ts v y w z e k = rw (e, k) refl

first-stuck : {A B : Type 0} (g : Phrase Token A) (h : A → Phrase Token B) (f : A → B → A) (ts : List Token) (w : Fault) (y : List Token) → g.read ts ≡ Stuck w y → (sequence g h f).read ts ≡ Stuck w y
first-stuck g h f ts w y e = rw e refl

second-stuck : {A B : Type 0} (g : Phrase Token A) (h : A → Phrase Token B) (f : A → B → A) (ts : List Token) (v : A) (y : List Token) (w : Fault) (z : List Token) → g.read ts ≡ Read v y → (h v).read y ≡ Stuck w z → (sequence g h f).read ts ≡ Stuck w z
second-stuck g h f ts v y w z e k = rw (e, k) refl

first-fails : {A B : Type 0} (g : Phrase Token A) (h : A → Phrase Token B) (f : A → B → A) (ts : List Token) (s : Stop Token) → Fails s (g.read ts) → Fails s ((sequence g h f).read ts)
first-fails g h f ts reasons.Memory e = tt
first-fails g h f ts (reasons.Fault w y) e = first-stuck g h f ts w y.now e

second-fails : {A B : Type 0} (g : Phrase Token A) (h : A → Phrase Token B) (f : A → B → A) (ts : List Token) (v : A) (y : List Token) (s : Stop Token) → g.read ts ≡ Read v y → Fails s ((h v).read y) → Fails s ((sequence g h f).read ts)
second-fails g h f ts v y reasons.Memory e k = tt
second-fails g h f ts v y (reasons.Fault w z) e k = second-stuck g h f ts v y w z.now e k

-- where no phrase begins, none is read
none-read : {A : Type 0} (first : List ℕ) (p : List Token → Outcome Token A) (y : List Token) → starts class first y ≡ false → read_many class first p y ≡ Read [] y
none-read first p [] e = refl
none-read first p (t ∷ y) e = rw e refl

none-behind : {A : Type 0} (g : Phrase Token Expr) (first : List ℕ) (p : Phrase Token A) (f : Expr → List A → Expr) (ts : List Token) (v : Expr) (y : List Token) → f v [] ≡ v → g.read ts ≡ Read v y → starts class first y ≡ false → (sequence g (λ e. many class first p) f).read ts ≡ Read v y
none-behind g first p f ts v y o h e = rw (h, none-read first p.read y e, o) refl

-- ---- the levels of binary operators

level-alone : (l : ℕ) (f : Phrase Token Expr) (ts : List Token) (v : Expr) (y : List Token) → f.read ts ≡ Read v y → starts class (level_codes l) y ≡ false → (level l f).read ts ≡ Read v y
unfolding level
level-alone l f ts v y h e = none-behind f (level_codes l) (operand l f) binary_of ts v y refl h e

level-read : (l : ℕ) (f : Phrase Token Expr) (ts : List Token) (v : Expr) (y : List Token) (os : List Operand) (z : List Token) → f.read ts ≡ Read v y → (many class (level_codes l) (operand l f)).read y ≡ Read os z → (level l f).read ts ≡ Read (binary_of v os) z
unfolding level
level-read l f ts v y os z h g = both-read f (λ e. many class (level_codes l) (operand l f)) binary_of ts v y os z h g

level-fails : (l : ℕ) (f : Phrase Token Expr) (ts : List Token) (s : Stop Token) → Fails s (f.read ts) → Fails s ((level l f).read ts)
unfolding level
level-fails l f ts s h = first-fails f (λ e. many class (level_codes l) (operand l f)) binary_of ts s h

level-stops : (l : ℕ) (f : Phrase Token Expr) (ts : List Token) (v : Expr) (y : List Token) (s : Stop Token) → f.read ts ≡ Read v y → Fails s ((many class (level_codes l) (operand l f)).read y) → Fails s ((level l f).read ts)
unfolding level
level-stops l f ts v y s h g = second-fails f (λ e. many class (level_codes l) (operand l f)) binary_of ts v y s h g

-- a factor behind which no binary operator stands is what every level reads
binary-alone : (l : ℕ) (f : Phrase Token Expr) (ts : List Token) (v : Expr) (y : List Token) → f.read ts ≡ Read v y → ((k : ℕ) → starts class (level_codes k) y ≡ false) → (binary l f).read ts ≡ Read v y
unfolding binary
binary-alone zero f ts v y h e = h
binary-alone (suc l) f ts v y h e = level-alone l (binary l f) ts v y (binary-alone l f ts v y h e) (e l)

-- a fault of a level is one of all looser levels
binary-fails : (k l : ℕ) (f : Phrase Token Expr) (ts : List Token) (s : Stop Token) → Fails s ((binary l f).read ts) → Fails s ((binary (k + l) f).read ts)
unfolding binary
binary-fails zero l f ts s h = let e : 0 + l ≡ l = omega arith in rw e h
binary-fails (suc k) l f ts s h =
    let e : suc k + l ≡ suc (k + l) = omega arith in
    rw e (level-fails (k + l) (binary (k + l) f) ts s (binary-fails k l f ts s h))

pub binary_fails : (l : ℕ) (f : Phrase Token Expr) (ts : List Token) (s : Stop Token) → Fails s (f.read ts) → Fails s ((binary l f).read ts)
unfolding binary
binary_fails zero f ts s h = h
binary_fails (suc l) f ts s h = level-fails l (binary l f) ts s (binary_fails l f ts s h)

-- one level more, where no operator of it stands, and where one does
pub binary_next_alone : (l room : ℕ) (ts : List Token) (v : Expr) (y : List Token) → (binary l (shaped Factor room)).read ts ≡ Read v y → starts class (level_codes l) y ≡ false → (binary (l + 1) (shaped Factor room)).read ts ≡ Read v y
binary_next_alone l room ts v y h e = binary_is l room ts ∙ level-alone l (binary l (shaped Factor room)) ts v y h e

pub binary_next : (l room : ℕ) (ts : List Token) (v : Expr) (y : List Token) (os : List Operand) (z : List Token) → (binary l (shaped Factor room)).read ts ≡ Read v y → (many class (level_codes l) (operand l (binary l (shaped Factor room)))).read y ≡ Read os z → (binary (l + 1) (shaped Factor room)).read ts ≡ Read (binary_of v os) z
binary_next l room ts v y os z h g = binary_is l room ts ∙ level-read l (binary l (shaped Factor room)) ts v y os z h g

pub binary_stops : (levels l room : ℕ) (ts : List Token) (v : Expr) (y : List Token) (s : Stop Token) → l < levels → (binary l (shaped Factor room)).read ts ≡ Read v y → Fails s ((many class (level_codes l) (operand l (binary l (shaped Factor room)))).read y) → Fails s ((binary levels (shaped Factor room)).read ts)
binary_stops levels l room ts v y s h r g =
    let e : levels ≡ (levels - (l + 1)) + (l + 1) = omega (arith, h) in
    let next : Fails s ((binary (l + 1) (shaped Factor room)).read ts) = rw (binary_is l room ts) (level-stops l (binary l (shaped Factor room)) ts v y s r g) in
    rw e (binary-fails (levels - (l + 1)) (l + 1) (shaped Factor room) ts s next)

-- ---- comparisons

pub comparison_alone : (f : Phrase Token Expr) (ts : List Token) (v : Expr) (y : List Token) → f.read ts ≡ Read v y → ((k : ℕ) → starts class (level_codes k) y ≡ false) → starts class comparison_first y ≡ false → (comparison (binary 6 f)).read ts ≡ Read v y
unfolding comparison
comparison_alone f ts v y h b e = none-behind (binary 6 f) comparison_first (compared (binary 6 f)) comparison_of ts v y refl (binary-alone 6 f ts v y h b) e

pub comparison_fails : (b : Phrase Token Expr) (ts : List Token) (s : Stop Token) → Fails s (b.read ts) → Fails s ((comparison b).read ts)
unfolding comparison
comparison_fails b ts s h = first-fails b (λ e. many class comparison_first (compared b)) comparison_of ts s h

-- ---- `and`, `or`

conjunction-alone : (i : Phrase Token Expr) (ts : List Token) (v : Expr) (y : List Token) → i.read ts ≡ Read v y → starts class (18 ∷ []) y ≡ false → (conjunction i).read ts ≡ Read v y
unfolding conjunction
conjunction-alone i ts v y h e = none-behind i (18 ∷ []) (joined 18 i) and_of ts v y refl h e

conjunction-fails : (i : Phrase Token Expr) (ts : List Token) (s : Stop Token) → Fails s (i.read ts) → Fails s ((conjunction i).read ts)
unfolding conjunction
conjunction-fails i ts s h = first-fails i (λ e. many class (18 ∷ []) (joined 18 i)) and_of ts s h

disjunction-fails : (c : Phrase Token Expr) (ts : List Token) (s : Stop Token) → Fails s (c.read ts) → Fails s ((disjunction c).read ts)
unfolding disjunction
disjunction-fails c ts s h = first-fails c (λ e. many class (42 ∷ []) (joined 42 c)) or_of ts s h

disjunction-alone : (c : Phrase Token Expr) (ts : List Token) (v : Expr) (y : List Token) → c.read ts ≡ Read v y → starts class (42 ∷ []) y ≡ false → (disjunction c).read ts ≡ Read v y
unfolding disjunction
disjunction-alone c ts v y h e = none-behind c (42 ∷ []) (joined 42 c) or_of ts v y refl h e

pub disjunction_fails : (i : Phrase Token Expr) (ts : List Token) (s : Stop Token) → Fails s (i.read ts) → Fails s ((disjunction (conjunction i)).read ts)
disjunction_fails i ts s h = disjunction-fails (conjunction i) ts s (conjunction-fails i ts s h)

-- ---- conditionals, and so expressions

conditional-alone : (room : ℕ) (d e : Phrase Token Expr) (ts : List Token) (v : Expr) (y : List Token) → d.read ts ≡ Read v y → starts class (35 ∷ []) y ≡ false → (conditional room d e).read ts ≡ Read v y
unfolding conditional choice
conditional-alone room d e ts v y h c = rw (h, c) refl

conditional-read : (room : ℕ) (d e : Phrase Token Expr) (ts : List Token) (v : Expr) (y : List Token) (c : Option (Pos × Expr × Expr)) (z : List Token) → d.read ts ≡ Read v y → (choice room d e).read y ≡ Read c z → (conditional room d e).read ts ≡ Read (conditional_of v c) z
unfolding conditional
conditional-read room d e ts v y c z h k = both-read d (λ v. choice room d e) conditional_of ts v y c z h k

conditional-fails : (room : ℕ) (d e : Phrase Token Expr) (ts : List Token) (s : Stop Token) → Fails s (d.read ts) → Fails s ((conditional room d e).read ts)
unfolding conditional
conditional-fails room d e ts s h = first-fails d (λ v. choice room d e) conditional_of ts s h

conditional-stops : (room : ℕ) (d e : Phrase Token Expr) (ts : List Token) (v : Expr) (y : List Token) (s : Stop Token) → d.read ts ≡ Read v y → Fails s ((choice room d e).read y) → Fails s ((conditional room d e).read ts)
unfolding conditional
conditional-stops room d e ts v y s h k = second-fails d (λ v. choice room d e) conditional_of ts v y s h k

abbrev operands : ℕ → Phrase Token Expr
operands room = disjunction (conjunction (shaped Inversion room))

pub expr_alone : (room : ℕ) (ts : List Token) (v : Expr) (y : List Token) → (shaped Inversion room).read ts ≡ Read v y → starts class (18 ∷ []) y ≡ false → starts class (42 ∷ []) y ≡ false → starts class (35 ∷ []) y ≡ false → (expr room).read ts ≡ Read v y
expr_alone room ts v y h a o c =
    let d : (operands room).read ts ≡ Read v y = disjunction-alone (conjunction (shaped Inversion room)) ts v y (conjunction-alone (shaped Inversion room) ts v y h a) o in
    expr_is room ts ∙ conditional-alone room (operands room) (nested room Whole) ts v y d c

pub expr_fails : (room : ℕ) (ts : List Token) (s : Stop Token) → Fails s ((disjunction (conjunction (shaped Inversion room))).read ts) → Fails s ((expr room).read ts)
expr_fails room ts s h = rw (expr_is room ts) (conditional-fails room (operands room) (nested room Whole) ts s h)

pub expr_read : (room : ℕ) (ts : List Token) (v : Expr) (y : List Token) (c : Option (Pos × Expr × Expr)) (z : List Token) → (disjunction (conjunction (shaped Inversion room))).read ts ≡ Read v y → (choice room (disjunction (conjunction (shaped Inversion room))) (nested room Whole)).read y ≡ Read c z → (expr room).read ts ≡ Read (conditional_of v c) z
expr_read room ts v y c z h k = expr_is room ts ∙ conditional-read room (operands room) (nested room Whole) ts v y c z h k

pub expr_stops : (room : ℕ) (ts : List Token) (v : Expr) (y : List Token) (s : Stop Token) → (disjunction (conjunction (shaped Inversion room))).read ts ≡ Read v y → Fails s ((choice room (disjunction (conjunction (shaped Inversion room))) (nested room Whole)).read y) → Fails s ((expr room).read ts)
expr_stops room ts v y s h k = rw (expr_is room ts) (conditional-stops room (operands room) (nested room Whole) ts v y s h k)
