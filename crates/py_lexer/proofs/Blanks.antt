-- White space and comments inside a line.
use Rattle.std.proofs.Common.{◌≡◌, ℕ, suc, ◌+◌, Bool, true, false, List, [], ◌∷◌, take, refl, arith}
use Rattle.std.specs.List.{prefix_len, list_all, list_any}
use Rattle.std.proofs.lemmas.Bool.{and_parts, or_from, not-true}
use Rattle.std.proofs.lemmas.Bool.Decides.{nat_tests}
use Rattle.py_literals.specs.declared.place.Pos.{Pos}
use Rattle.py_lexer.specs.declared.state.Mode.TheVariants as modes
use Rattle.py_lexer.specs.declared.state.State.{State}
use Rattle.py_lexer.specs.Chars.{is_white, is_line_end, is_in_line}
use Rattle.py_lexer.specs.Front.{Passed}
use Rattle.py_lexer.specs.Inside.{inside}
use Rattle.py_lexer.specs.Pieces.{piece}
use Rattle.py_lexer.proofs.WordLemmas.{front_passes}

pub white_passed : (at : Pos) (s : State) (c : ℕ) (cs : List ℕ) → is_white c ≡ true → Passed (1 + prefix_len is_white cs) s ≡ inside at s c cs
white_passed at s c cs e = rw e refl

pub comment_passed : (at : Pos) (s : State) (c : ℕ) (cs : List ℕ) → c ≡ 35 → Passed (1 + prefix_len is_in_line cs) s ≡ inside at s c cs
comment_passed at s c cs e = rw e refl

pub inside_here : (at : Pos) (s : State) (c : ℕ) (rest cs : List ℕ) → cs ≡ c ∷ rest → s.mode ≡ modes.Inside → inside at s c rest ≡ piece at s cs
inside_here at s c rest cs parts m = rw (parts, m) refl

-- none of them ends a line

no_ends : (p : ℕ → Bool) → ((c : ℕ) → p c ≡ true → is_line_end c ≡ false) → (cs : List ℕ) → list_all p cs ≡ true → list_any is_line_end cs ≡ false
no_ends p each [] h = refl
no_ends p each (c ∷ cs) h =
    let parts = and_parts (p c) (list_all p cs) h in
    or_from (is_line_end c) (list_any is_line_end cs) (each c parts.0) (no_ends p each cs parts.1)

front_in_line : (p : ℕ → Bool) → ((c : ℕ) → p c ≡ true → is_line_end c ≡ false) → (c : ℕ) (cs : List ℕ) → is_line_end c ≡ false → list_any is_line_end (take (1 + prefix_len p cs) (c ∷ cs)) ≡ false
front_in_line p each c cs e =
    let m : 1 + prefix_len p cs ≡ suc (prefix_len p cs) = omega arith in
    rw m (or_from (is_line_end c) _ e (no_ends p each (take (prefix_len p cs) cs) (front_passes p cs)))

white_in : (c : ℕ) → is_white c ≡ true → is_line_end c ≡ false
white_in c e = grind (arith, nat_tests)

pub white_in_line : (c : ℕ) (cs : List ℕ) → is_white c ≡ true → list_any is_line_end (take (1 + prefix_len is_white cs) (c ∷ cs)) ≡ false
white_in_line c cs e = front_in_line is_white white_in c cs (white_in c e)

comment_in : (c : ℕ) → is_in_line c ≡ true → is_line_end c ≡ false
comment_in c e = not-true (is_line_end c) e

pub comment_in_line : (c : ℕ) (cs : List ℕ) → c ≡ 35 → list_any is_line_end (take (1 + prefix_len is_in_line cs) (c ∷ cs)) ≡ false
comment_in_line c cs e = front_in_line is_in_line comment_in c cs (rw e refl)
