-- A line of simple statements, from the end of its first on.
use Rattle.std.proofs.Common.{◌≡◌, ℕ, true, List, [], ◌∷◌, ◌++◌, Option, refl}
use Rattle.phrases.specs.Sets.{starts}
use Rattle.phrases.specs.Reading.{Outcome, Read, Stuck, after}
use Rattle.phrases.specs.Phrases.{Phrase, token}
use Rattle.phrases.specs.Loops.{with_front, Fails}
use Rattle.phrases.specs.Series.{read_run}
use Rattle.phrases.specs.declared.fault.Stop.{Stop}
use Rattle.phrases.specs.declared.fault.Stop.TheVariants as stops
use Rattle.phrases.proofs.Sets.{apart_has}
use Rattle.py_literals.specs.declared.place.Pos.{Pos}
use Rattle.py_lexer.specs.declared.token.Token.{Token}
use Rattle.py_ast.specs.Kinds.{class, mark_of}
use Rattle.py_ast.specs.Trees.{given, all_given}
use Rattle.py_ast.specs.Grammar.{both, mapped, ended, goes_past}
use Rattle.py_ast.specs.Statements.{further, line}
use Rattle.py_ast.specs.declared.statement.Stmt.{Stmt}
use Rattle.py_parser.specs.Lines.{behind}

-- ---- what stands behind ";"

abbrev others : List ℕ → Phrase Token Stmt → List Token → Outcome Token (List (Pos × Option Stmt))
others first g y = read_run class (λ t. 80 ∷ []) (λ t. (further first g).read) (λ t i. goes_past (λ s. tt {0}) i) (tt {0}) y

none_behind : (first : List ℕ) (g : Phrase Token Stmt) (y : List Token) → starts class (5 ∷ []) y ≡ true → others first g y ≡ Read [] y
none_behind first g [] h = absurd cc
none_behind first g (t ∷ y) h = rw (apart_has (5 ∷ []) (80 ∷ []) (class t) refl h) refl

-- ---- both ways to put a line together

ends_so : (s : Stmt) (os : List (Pos × Option Stmt)) (n : Outcome Token Pos) → after (after n (λ m w. Read (both s os) w)) (λ p z. Read (all_given p) z) ≡ after (after n (λ m w. Read os w)) (λ us z. Read (s ∷ given us) z)
ends_so s os (Read at y) = refl
ends_so s os (Stuck f y) = refl

goes_so : (s : Stmt) (o : Outcome Token (List (Pos × Option Stmt))) (n : List Token → Outcome Token Pos)
    → after (after (after o (λ os z. Read (both s os) z)) (λ p z. after (n z) (λ m w. Read p w))) (λ p z. Read (all_given p) z) ≡ after (after o (λ os z. after (n z) (λ m w. Read os w))) (λ us z. Read (s ∷ given us) z)
goes_so s (Read os z) n = ends_so s os (n z)
goes_so s (Stuck f z) n = refl

alone_so : (s : Stmt) (n : Outcome Token Pos) → after (after n (λ m w. Read (both s []) w)) (λ p z. Read (all_given p) z) ≡ after n (λ m z. Read (s ∷ []) z)
alone_so s (Read at y) = refl
alone_so s (Stuck f y) = refl

-- ---- a line whose first statement was read

pub line_goes : (first : List ℕ) (g : Phrase Token Stmt) (ts : List Token) (s : Stmt) (y : List Token) → g.read ts ≡ Read s y → (line first g).read ts ≡ behind first g s y
unfolding line mapped ended
line_goes first g ts s y e = rw e (goes_so s (others first g y) (token (mark_of 5)).read)

pub line_ends : (first : List ℕ) (g : Phrase Token Stmt) (ts : List Token) (s : Stmt) (y : List Token) → g.read ts ≡ Read s y → starts class (5 ∷ []) y ≡ true
    → (line first g).read ts ≡ after ((token (mark_of 5)).read y) (λ m z. Read (s ∷ []) z)
unfolding line mapped ended
line_ends first g ts s y e h = rw (e, none_behind first g y h) (alone_so s ((token (mark_of 5)).read y))

-- ---- behind other statements

module _ (before : List Stmt) (first : List ℕ) (g : Phrase Token Stmt) (ts : List Token) where
  pub line_one : (all : List Stmt) (s : Stmt) (y : List Token) (at : Pos) (z : List Token) → g.read ts ≡ Read s y → starts class (5 ∷ []) y ≡ true
      → (token (mark_of 5)).read y ≡ Read at z → all ≡ before ++ s ∷ [] → with_front before ((line first g).read ts) ≡ Read all z
  line_one all s y at z e h k a = rw (line_ends first g ts s y e h, k, a) refl

  pub line_fails : (e : Stop Token) → Fails e (g.read ts) → Fails e (with_front before ((line first g).read ts))
  unfolding line mapped ended
  line_fails stops.Memory h = tt
  line_fails (stops.Fault f y) h = rw h refl
