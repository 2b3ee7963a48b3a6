-- What each step from the end of a run on back leaves.
use Rattle.std.proofs.Common.{◌≡◌, ℕ, zero, suc, Bool, true, false, List, [], ◌∷◌, Some, None, refl}
use Rattle.std.proofs.Math.Dec.{eqb-suc-zero}
use Rattle.py_forms.specs.declared.role.Role.{Role}
use Rattle.py_forms.specs.declared.level.Step.TheVariants.{Skip, Inside, Open}
use Rattle.py_forms.specs.declared.level.Separator.{Separator}
use Rattle.py_forms.specs.Levels.{step, outer, inner, separates, has_by, waits_at, waits_in, waits_for_else}
use Rattle.py_forms.specs.Primaries.{goes_on, before_primary, is_right_paren, unwrapped}

pub outer_none : (n : ℕ) → outer n [] ≡ []
unfolding outer
outer_none n = refl

pub outer_skip : (role : Role) (before : List Role) (n m : ℕ) → step n role ≡ Skip m → outer n (role ∷ before) ≡ outer m before
unfolding outer
outer_skip role before n m e = rw (e, outer) refl

pub outer_inside : (role : Role) (before : List Role) (n : ℕ) → step n role ≡ Inside → outer n (role ∷ before) ≡ outer 0 before
unfolding outer
outer_inside role before n e = rw (e, outer) refl

pub outer_open : (role : Role) (before : List Role) (n : ℕ) → step n role ≡ Open → outer n (role ∷ before) ≡ role ∷ before
unfolding outer
outer_open role before n e = rw (e, outer) refl

inner_skip : (role : Role) (before : List Role) (n m : ℕ) → step n role ≡ Skip m → inner n (role ∷ before) ≡ inner m before
unfolding inner
inner_skip role before n m e = rw (e, inner) refl

inner_inside : (role : Role) (before : List Role) (n : ℕ) → step n role ≡ Inside → inner n (role ∷ before) ≡ role ∷ inner 0 before
unfolding inner
inner_inside role before n e = rw (e, inner) refl

inner_open : (role : Role) (before : List Role) (n : ℕ) → step n role ≡ Open → inner n (role ∷ before) ≡ []
unfolding inner
inner_open role before n e = rw (e, inner) refl

pub has_none : (n : ℕ) (s : Separator) → has_by n s [] ≡ false
unfolding has_by inner
has_none n s = refl

pub has_skip : (s : Separator) (role : Role) (before : List Role) (n m : ℕ) → step n role ≡ Skip m → has_by n s (role ∷ before) ≡ has_by m s before
unfolding has_by
has_skip s role before n m e = rw (inner_skip role before n m e) refl

pub has_found : (s : Separator) (role : Role) (before : List Role) (n : ℕ) → step n role ≡ Inside → separates s role ≡ true → has_by n s (role ∷ before) ≡ true
unfolding has_by
has_found s role before n e f = rw (inner_inside role before n e, f) refl

pub has_further : (s : Separator) (role : Role) (before : List Role) (n : ℕ) → step n role ≡ Inside → separates s role ≡ false → has_by n s (role ∷ before) ≡ has_by 0 s before
unfolding has_by
has_further s role before n e f = rw (inner_inside role before n e, f) refl

pub has_open : (s : Separator) (role : Role) (before : List Role) (n : ℕ) → step n role ≡ Open → has_by n s (role ∷ before) ≡ false
unfolding has_by
has_open s role before n e = rw (inner_open role before n e) refl

pub waits_none : (n : ℕ) → waits_for_else n [] ≡ false
unfolding waits_for_else waits_in inner
waits_none n = refl

pub waits_skip : (role : Role) (before : List Role) (n m : ℕ) → step n role ≡ Skip m → waits_for_else n (role ∷ before) ≡ waits_for_else m before
unfolding waits_for_else
waits_skip role before n m e = rw (inner_skip role before n m e) refl

pub waits_found : (role : Role) (before : List Role) (n : ℕ) (waits : Bool) → step n role ≡ Inside → waits_at role ≡ Some waits → waits_for_else n (role ∷ before) ≡ waits
unfolding waits_for_else waits_in
waits_found role before n waits e f = rw (inner_inside role before n e, f) refl

pub waits_further : (role : Role) (before : List Role) (n : ℕ) → step n role ≡ Inside → waits_at role ≡ None → waits_for_else n (role ∷ before) ≡ waits_for_else 0 before
unfolding waits_for_else waits_in
waits_further role before n e f = rw (inner_inside role before n e, f) refl

pub waits_open : (role : Role) (before : List Role) (n : ℕ) → step n role ≡ Open → waits_for_else n (role ∷ before) ≡ false
unfolding waits_for_else waits_in
waits_open role before n e = rw (inner_open role before n e) refl

pub primary_none : (n : ℕ) → before_primary n [] ≡ []
unfolding before_primary
primary_none n = refl

pub primary_open : (role : Role) (before : List Role) (n : ℕ) → step n role ≡ Open → before_primary n (role ∷ before) ≡ role ∷ before
unfolding before_primary
primary_open role before n e = rw (e, before_primary) refl

pub primary_first : (role : Role) (before : List Role) (n : ℕ) → step n role ≡ Inside → goes_on role before ≡ false → before_primary n (role ∷ before) ≡ before
unfolding before_primary
primary_first role before n e f = rw (e, f, before_primary) refl

pub primary_goes_on : (role : Role) (before : List Role) (n : ℕ) → step n role ≡ Inside → goes_on role before ≡ true → before_primary n (role ∷ before) ≡ before_primary 0 before
unfolding before_primary
primary_goes_on role before n e f = rw (e, f, before_primary) refl

pub primary_opened : (role : Role) (before : List Role) (n : ℕ) → step n role ≡ Skip 0 → goes_on role before ≡ false → before_primary n (role ∷ before) ≡ before
unfolding before_primary
primary_opened role before n e f = rw (e, f, before_primary) refl

pub primary_reopened : (role : Role) (before : List Role) (n : ℕ) → step n role ≡ Skip 0 → goes_on role before ≡ true → before_primary n (role ∷ before) ≡ before_primary 0 before
unfolding before_primary
primary_reopened role before n e f = rw (e, f, before_primary) refl

pub primary_skip : (role : Role) (before : List Role) (n m : ℕ) → step n role ≡ Skip m → (m ≡ 0 → ⊥) → before_primary n (role ∷ before) ≡ before_primary m before
unfolding before_primary
primary_skip role before n zero e ne = absurd (ne refl)
primary_skip role before n (suc m) e ne = rw (e, before_primary, eqb-suc-zero m) refl

pub unwrapped_none : unwrapped [] ≡ []
unfolding unwrapped
unwrapped_none = refl

pub unwrapped_more : (role : Role) (before : List Role) → is_right_paren role ≡ true → unwrapped (role ∷ before) ≡ unwrapped before
unfolding unwrapped
unwrapped_more role before e = rw (e, unwrapped) refl

pub unwrapped_done : (role : Role) (before : List Role) → is_right_paren role ≡ false → unwrapped (role ∷ before) ≡ role ∷ before
unfolding unwrapped
unwrapped_done role before e = rw (e, unwrapped) refl
