-- What the tokens of a line tell, one after the other, and the nearest of it.
use Rattle.std.proofs.Common.{◌≡◌, ℕ, ◌+◌, ◌<◌, ◌≤◌, Bool, true, false, List, [], ◌∷◌, Option, Some, None, IfSome, Result, Ok, Err, IfOk, length, nat_lt, nat_le, if◌then◌else◌, refl, arith}
use Rattle.std.proofs.lemmas.Bool.Decides.{nat_tests}
use Rattle.py_lexer.specs.declared.token.Token.{Token}
use Rattle.py_forms.specs.declared.telling.ToldForm.{ToldForm}
use Rattle.py_forms.specs.Forms.{or_else}
use Rattle.later_forms.specs.declared.nearest.Nearest.{Nearest}
use Rattle.later_forms.specs.declared.nesting.Nesting.{Nesting}
use Rattle.later_forms.specs.Nesting.{advanced}
use Rattle.later_forms.specs.Subjects.{ends_line}
use Rattle.later_forms.specs.Later.{told_from, listed, told_along, least, nearest}

pub along_end : (count at : ℕ) (n : Nesting) → told_along count at (Some n) [] ≡ []
unfolding told_along
along_end count at n = refl

pub along_nowhere : (count at : ℕ) (tokens : List Token) → told_along count at None tokens ≡ []
unfolding told_along
along_nowhere count at [] = refl
along_nowhere count at (t ∷ ts) = refl

pub along_line : (count at : ℕ) (n : Nesting) (t : Token) (ts : List Token) → ends_line t.kind ≡ true → told_along count at (Some n) (t ∷ ts) ≡ []
unfolding told_along
along_line count at n t ts e = rw (e, told_along) refl

pub along_on : (count at : ℕ) (n : Nesting) (t : Token) (ts : List Token) → ends_line t.kind ≡ false →
    told_along count at (Some n) (t ∷ ts) ≡ listed (told_from (nat_le count at) n.innermost t.kind) (told_along count (at + 1) (advanced (nat_le count at) at t n) ts)
unfolding told_along
along_on count at n t ts e = rw (e, told_along) refl

pub nearest_end : (seen : Nearest) → nearest seen [] ≡ seen.form
unfolding nearest least
nearest_end seen = refl

or_else_none : (o : Option ToldForm) → or_else o None ≡ o
or_else_none None = refl
or_else_none (Some f) = refl

or_else_some : (o p : Option ToldForm) (f : ToldForm) → or_else (or_else o (Some f)) p ≡ or_else o (Some f)
or_else_some None p f = refl
or_else_some (Some g) p f = refl

pub nearest_first : (limit : ℕ) (forms : List ToldForm) → nearest (record { limit = limit; form = None }) forms ≡ least limit forms
unfolding nearest
nearest_first limit forms = or_else_none (least limit forms)

pub nearest_nearer : (seen : Nearest) (f : ToldForm) (further : List ToldForm) → f.place < seen.limit →
    nearest seen (f ∷ further) ≡ nearest (record { limit = f.place; form = Some f }) further
unfolding nearest least
nearest_nearer seen f further h =
    let e : nat_lt f.place seen.limit ≡ true = grind (arith, nat_tests) in
    rw (e, least) (or_else_some (least f.place further) seen.form f)

pub nearest_farther : (seen : Nearest) (f : ToldForm) (further : List ToldForm) → seen.limit ≤ f.place → nearest seen (f ∷ further) ≡ nearest seen further
unfolding nearest least
nearest_farther seen f further h =
    let e : nat_lt f.place seen.limit ≡ false = grind (arith, nat_tests) in
    rw (e, least) refl

if_nearer : (o : Option ToldForm) (f : ToldForm) (limit : ℕ) → f.place < limit → IfSome o (λ g. g.place < f.place) → IfSome (or_else o (Some f)) (λ g. g.place < limit)
if_nearer None f limit h k = h
if_nearer (Some g) f limit h k = omega arith

-- at the end of the line what was seen is all
pub ended : (seen : Nearest) (count at : ℕ) (n : Nesting) (tokens : List Token) (o : Option ToldForm) → length tokens ≡ 0 →
    nearest seen (told_along count at (Some n) tokens) ≡ o → seen.form ≡ o
unfolding nearest least told_along
ended seen count at n [] o e h = h
ended seen count at n (t ∷ ts) o e h = absurd (omega arith)

by_test : (b : Bool) (f : ToldForm) (limit : ℕ) (o p : Option ToldForm) → (b ≡ true → f.place < limit) →
    IfSome o (λ g. g.place < f.place) → IfSome p (λ g. g.place < limit) → IfSome (if b then or_else o (Some f) else p) (λ g. g.place < limit)
by_test true f limit o p h k m = if_nearer o f limit (h refl) k
by_test false f limit o p h k m = m

is_less : (m n : ℕ) → nat_lt m n ≡ true → m < n
is_less m n e = grind (arith, nat_tests)

pub least_below : (limit : ℕ) (forms : List ToldForm) → IfSome (least limit forms) (λ f. f.place < limit)
unfolding least
least_below limit [] = tt
least_below limit (f ∷ fs) =
    by_test (nat_lt f.place limit) f limit (least f.place fs) (least limit fs) (is_less f.place limit) (least_below f.place fs) (least_below limit fs)

pub if_least : {E : Type 0} (r : Result (Option ToldForm) E) (limit : ℕ) (forms : List ToldForm) →
    IfOk r (λ f. f ≡ least limit forms) → IfOk r (λ f. IfSome f (λ g. g.place < limit))
if_least (Ok f) limit forms e = rw e (least_below limit forms)
if_least (Err x) limit forms e = tt
