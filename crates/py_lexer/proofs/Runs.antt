-- Runs of pieces.
use Rattle.std.proofs.Common.{◌≡◌, ℕ, ◌+◌, ◌-◌, ◌<◌, ◌≤◌, List, [], ◌∷◌, ◌++◌, length, take, drop, length-drop, length-take, sym, append_assoc, append-nil, arith}
use Rattle.py_literals.specs.declared.place.Pos.{Pos}
use Rattle.py_literals.specs.Place.{after}
use Rattle.py_lexer.specs.declared.token.Kind.{Kind}
use Rattle.py_lexer.specs.declared.token.Value.{Value}
use Rattle.py_lexer.specs.declared.token.Token.{Token}
use Rattle.py_lexer.specs.declared.token.LexKind.{LexKind}
use Rattle.py_lexer.specs.declared.token.LexKind.TheVariants.{OpenBracket}
use Rattle.py_lexer.specs.declared.state.State.{State}
use Rattle.py_lexer.specs.Front.{Found, Passed, Bad, Unclosed, Over}
use Rattle.py_lexer.specs.Pieces.{piece}
use Rattle.py_lexer.specs.Runs.{token, Tokens, over, found, passed, Faulty, bad, unclosed, behind_token, behind, first_place, start}
use Rattle.py_lexer.proofs.Places.{after_line, after_col}
use Rattle.py_lexer.proofs.Sizes.{size_by, size}
use Rattle.py_lexer.proofs.PieceSizes.{piece_shrinks}

-- what is read from s on, behind the tokens read before, is what the whole text has
pub record Leads (text : List ℕ) (before : List Token) (at : Pos) (s : State) (cs : List ℕ) : Type 0 where
  pub tokens : (ks : List Token) → Tokens at s cs ks → Tokens first_place start text (before ++ ks)
  pub faults : (k : LexKind) (place : Pos) → Faulty at s cs k place → Faulty first_place start text k place

pub leads_start : (text : List ℕ) → Leads text [] first_place start text
leads_start text = record { tokens = λ ks h. h; faults = λ k place h. h }

pub leads_found : (text : List ℕ) (before : List Token) (at : Pos) (s t : State) (cs : List ℕ) (n : ℕ) (k : Kind) (v : Value) → Leads text before at s cs → Found n k v t ≡ piece at s cs → Leads text (before ++ token k v at ∷ []) (after at (take n cs)) t (drop n cs)
leads_found text before at s t cs n k v l e = record {
  tokens = λ ks h. rw (append_assoc before (token k v at ∷ []) ks) (l.tokens (token k v at ∷ ks) (found (sym e) h));
  faults = λ f place h. l.faults f place (behind_token (sym e) h);
}

pub leads_passed : (text : List ℕ) (before : List Token) (at : Pos) (s t : State) (cs : List ℕ) (n : ℕ) → Leads text before at s cs → Passed n t ≡ piece at s cs → Leads text before (after at (take n cs)) t (drop n cs)
leads_passed text before at s t cs n l e = record {
  tokens = λ ks h. l.tokens ks (passed (sym e) h);
  faults = λ f place h. l.faults f place (behind (sym e) h);
}

pub leads_over : (text : List ℕ) (before : List Token) (at : Pos) (s : State) (cs : List ℕ) → Leads text before at s cs → Over ≡ piece at s cs → Tokens first_place start text before
leads_over text before at s cs l e = rw append-nil at (l.tokens [] (over (sym e)))

pub leads_bad : (text : List ℕ) (before : List Token) (at : Pos) (s : State) (cs : List ℕ) (k : LexKind) (n : ℕ) → Leads text before at s cs → Bad k n ≡ piece at s cs → Faulty first_place start text k (after at (take n cs))
leads_bad text before at s cs k n l e = l.faults k (after at (take n cs)) (bad (sym e))

pub leads_unclosed : (text : List ℕ) (before : List Token) (at : Pos) (s : State) (cs : List ℕ) (bracket : Pos) → Leads text before at s cs → Unclosed bracket ≡ piece at s cs → Faulty first_place start text OpenBracket bracket
leads_unclosed text before at s cs bracket l e = l.faults OpenBracket bracket (unclosed (sym e))

-- a piece leaves less to read
pub found_shrinks : (at : Pos) (s t : State) (cs : List ℕ) (n : ℕ) (k : Kind) (v : Value) → Found n k v t ≡ piece at s cs → size t (drop n cs) < size s cs
found_shrinks at s t cs n k v e =
    let h : size_by (length cs - n) t < size_by (length cs) s = rw (← e) at (piece_shrinks at s cs) in
    rw (length-drop n cs) h

pub passed_shrinks : (at : Pos) (s t : State) (cs : List ℕ) (n : ℕ) → Passed n t ≡ piece at s cs → size t (drop n cs) < size s cs
passed_shrinks at s t cs n e =
    let h : size_by (length cs - n) t < size_by (length cs) s = rw (← e) at (piece_shrinks at s cs) in
    rw (length-drop n cs) h

length_parts : (n : ℕ) (cs : List ℕ) → length (take n cs) + length (drop n cs) ≡ length cs
length_parts n cs = omega (arith, length-take n cs, length-drop n cs)

-- a place moves no further than the characters before it
pub moved_line : (at : Pos) (cs : List ℕ) (n m : ℕ) → at.line + length cs ≤ m → (after at (take n cs)).line + length (drop n cs) ≤ m
moved_line at cs n m h = omega (arith, after_line at (take n cs), length_parts n cs)

pub moved_col : (at : Pos) (cs : List ℕ) (n m : ℕ) → at.col + length cs ≤ m → (after at (take n cs)).col + length (drop n cs) ≤ m
moved_col at cs n m h = omega (arith, after_col at (take n cs), length_parts n cs)
