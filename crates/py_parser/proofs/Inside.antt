-- What stands in a block has one less room, and its statements are read into one list.
use Rattle.std.proofs.Common.{◌≡◌, ℕ, ◌-◌, ◌<◌, List, [], refl}
use Rattle.std.specs.List.{flat_map}
use Rattle.phrases.specs.Reading.{Outcome, Read, Stuck, after}
use Rattle.phrases.specs.Phrases.{Phrase, sequence}
use Rattle.phrases.specs.Loops.{with_front, Fails}
use Rattle.phrases.specs.declared.fault.Stop.{Stop}
use Rattle.phrases.specs.declared.fault.Stop.TheVariants as stops
use Rattle.py_lexer.specs.declared.token.Token.{Token}
use Rattle.py_ast.specs.Grammar.{mapped, expr}
use Rattle.py_ast.specs.Literals.{literal}
use Rattle.py_ast.specs.Statements.{cons}
use Rattle.py_ast.specs.Files.{Suites, suites, suite_over, indented}
use Rattle.py_ast.specs.declared.statement.Stmt.{Stmt}
use Rattle.py_ast.specs.declared.statement.Suite.{Suite}
use Rattle.py_ast.specs.declared.statement.Suite.TheVariants.{Body, Members}
use Rattle.py_ast.proofs.FileLaws.{suites-is}
use Rattle.py_parser.specs.Lines.{simples, simples_line}
use Rattle.py_parser.specs.Lists.{with_all}
use Rattle.py_parser.specs.Suites.{statement, statement_first, simples_of}

suite_over_is : (room : ℕ) (inner : Suites) (s : Suite) → suite_over (expr 100) (literal 100) room inner s ≡ indented (statement_first s) (statement room inner s) (simples_line (expr 100) (simples_of s))
unfolding suite_over statement simples
suite_over_is room inner (Body returns loops) = refl
suite_over_is room inner Members = refl

pub suites_is : (s : Suite) (room : ℕ) (ts : List Token) → 0 < room
    → (suites 100 room s).read ts ≡ (indented (statement_first s) (statement (room - 1) (suites 100 (room - 1)) s) (simples_line (expr 100) (simples_of s))).read ts
suites_is s room ts h = rw (suites-is s 100 room h, suite_over_is (room - 1) (suites 100 (room - 1)) s) refl

-- ---- the statements of a block

-- the first, or those of a first line, and then the others
abbrev block_of : Outcome Token (List Stmt) → (List Token → Outcome Token (List (List Stmt))) → Outcome Token (List Stmt)
block_of o m = after (after o (λ s y. after (m y) (λ ls z. Read (cons s ls) z))) (λ ls z. Read (flat_map (λ s. s) ls) z)

from_first : (o : Outcome Token (List Stmt)) (m : List Token → Outcome Token (List (List Stmt))) (first : List Stmt) (y : List Token) → with_front [] o ≡ Read first y → block_of o m ≡ with_all first (m y)
from_first (Read s z) m first y e = let same : s ≡ first = cc in let on : z ≡ y = cc in rw (same, on) (from_others (m y))
  where
    from_others : (n : Outcome Token (List (List Stmt))) → after (after n (λ ls z. Read (cons first ls) z)) (λ ls z. Read (flat_map (λ s. s) ls) z) ≡ with_all first n
    from_others (Read ls z) = refl
    from_others (Stuck f z) = refl
from_first (Stuck f z) m first y e = absurd cc

no_first : (o : Outcome Token (List Stmt)) (m : List Token → Outcome Token (List (List Stmt))) (e : Stop Token) → Fails e (with_front [] o) → Fails e (block_of o m)
no_first o m stops.Memory h = tt
no_first (Read s z) m (stops.Fault f y) h = absurd cc
no_first (Stuck g z) m (stops.Fault f y) h = h

module _ (s : Phrase Token (List Stmt)) (ms : Phrase Token (List (List Stmt))) (ts : List Token) (before : List Stmt) (none : before ≡ []) where
  abbrev block : Phrase Token (List Stmt)
  block = mapped (sequence s (λ a. ms) cons) (flat_map (λ s. s))

  pub block_read : (first : List Stmt) (y : List Token) → with_front before (s.read ts) ≡ Read first y → block.read ts ≡ with_all first (ms.read y)
  unfolding mapped
  block_read first y e = from_first (s.read ts) ms.read first y (rw none at e)

  pub block_stops : (e : Stop Token) → Fails e (with_front before (s.read ts)) → Fails e (block.read ts)
  unfolding mapped
  block_stops e h = no_first (s.read ts) ms.read e (rw none at h)
