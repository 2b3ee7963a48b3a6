-- What the facts of a name say of the list of bindings that they are told from.
use Rattle.std.proofs.Common.{◌≡◌, ℕ, suc, ◌+◌, Bool, true, false, cond, ◌&&◌, ◌||◌, List, [], ◌∷◌, filter, Option, Some, None, is_some, slice_get, refl, sym, ap, ◌∙◌, arith}
use Rattle.std.specs.Cmp.Lexicographic.{bytes_decides}
use Rattle.rv_names.specs.Keys.{Bytes, bytes_equal}
use Rattle.py_ast.specs.declared.binding.Binding.{Binding}
use Rattle.py_scopes.specs.declared.facts.Seen.{Seen}
use Rattle.py_scopes.specs.declared.facts.Facts.{Facts}
use Rattle.py_ast.specs.Bindings.{is_of}
use Rattle.py_ast.specs.ScopeFaults.{binds, is_fixed, is_variable, is_fixed_in, first_of}
use Rattle.py_ast.specs.Owned.{is_one, is_bound_once}
use Rattle.py_scopes.specs.Facts.{seen_at, unseen, with_binding, known, told, or_look, alone}
use Rattle.py_scopes.specs.Names.{is_named, is_variable_of, only_one, only_binding, only_annotation}

or_false : (a : Bool) → a ≡ a || false
or_false true = refl
or_false false = refl

or_assoc : (a b c : Bool) → (a || b) || c ≡ a || (b || c)
or_assoc true b c = refl
or_assoc false b c = refl

-- ---- a map that takes the facts of one more binding

same_name : (a b : Bytes) → bytes_equal a b ≡ true → a ≡ b
same_name a b = (bytes_decides a b).0

-- what the map has of n, where it has that of the binding's name from the facts before
pub told-step : (m : Bytes → Option Facts) (after : Option Facts) (at : ℕ) (n : Bytes) (b : Binding)
    → after ≡ cond (bytes_equal b.name n) (Some (with_binding at b (known (m b.name)))) (m n)
    → after ≡ cond (is_of n b) (Some (with_binding at b (known (m n)))) (m n)
told-step m after at n b e = e ∙ by (bytes_equal b.name n) (same_name b.name n)
  where
    by : (t : Bool) → (t ≡ true → b.name ≡ n) → cond t (Some (with_binding at b (known (m b.name)))) (m n) ≡ cond t (Some (with_binding at b (known (m n)))) (m n)
    by true same = ap (λ x. Some (with_binding at b (known (m x)))) (same refl)
    by false same = refl

-- what is told grows with what is known before, and no facts are those of no bindings
pub told_alike : (n : Bytes) (at : ℕ) (f g : Option Facts) (bs : List Binding) → known f ≡ known g → known (told n at f bs) ≡ known (told n at g bs)
told_alike n at f g [] e = e
told_alike n at f g (b ∷ bs) e = told_alike n (at + 1) (cond (is_of n b) (Some (with_binding at b (known f))) f) (cond (is_of n b) (Some (with_binding at b (known g))) g) bs (by (is_of n b))
  where
    by : (t : Bool) → known (cond t (Some (with_binding at b (known f))) f) ≡ known (cond t (Some (with_binding at b (known g))) g)
    by true = ap (with_binding at b) e
    by false = e

-- ---- whether there is one

pub named-told : (n : Bytes) (at : ℕ) (f : Option Facts) (bs : List Binding) → (known (told n at f bs)).named ≡ (known f).named || is_named n bs
named-told n at f [] = or_false (known f).named
named-told n at f (b ∷ bs) = named-told n (at + 1) (cond (is_of n b) (Some (with_binding at b (known f))) f) bs ∙ by (is_of n b)
  where
    turn : (s : Bool) → true ≡ s || true
    turn true = refl
    turn false = refl

    by : (t : Bool) → (known (cond t (Some (with_binding at b (known f))) f)).named || is_named n bs ≡ (known f).named || (t || is_named n bs)
    by true = turn (known f).named
    by false = refl

pub fixed-told : (n : Bytes) (at : ℕ) (f : Option Facts) (bs : List Binding) → (known (told n at f bs)).fixed ≡ (known f).fixed || is_fixed_in bs n
fixed-told n at f [] = or_false (known f).fixed
fixed-told n at f (b ∷ bs) = fixed-told n (at + 1) (cond (is_of n b) (Some (with_binding at b (known f))) f) bs ∙ by (is_of n b)
  where
    by : (t : Bool) → (known (cond t (Some (with_binding at b (known f))) f)).fixed || is_fixed_in bs n ≡ (known f).fixed || ((t && is_fixed b.kind) || is_fixed_in bs n)
    by true = or_assoc (known f).fixed (is_fixed b.kind) (is_fixed_in bs n)
    by false = refl

pub variable-told : (n : Bytes) (at : ℕ) (f : Option Facts) (bs : List Binding) → (known (told n at f bs)).variable ≡ (known f).variable || is_variable_of n bs
variable-told n at f [] = or_false (known f).variable
variable-told n at f (b ∷ bs) = variable-told n (at + 1) (cond (is_of n b) (Some (with_binding at b (known f))) f) bs ∙ by (is_of n b)
  where
    by : (t : Bool) → (known (cond t (Some (with_binding at b (known f))) f)).variable || is_variable_of n bs ≡ (known f).variable || ((t && is_variable b.kind) || is_variable_of n bs)
    by true = or_assoc (known f).variable (is_variable b.kind) (is_variable_of n bs)
    by false = refl

-- ---- places

abbrev pub seen_told : (Binding → Bool) → Bytes → ℕ → Seen → List Binding → Seen
seen_told p n at s [] = s
seen_told p n at s (b ∷ bs) = seen_told p n (at + 1) (cond (is_of n b && p b) (seen_at at s) s) bs

abbrev pub binding : Binding → Bool
binding b = binds b.kind

abbrev pub annotation : Binding → Bool
annotation b = b.annotated

pub bound-told : (n : Bytes) (at : ℕ) (f : Option Facts) (bs : List Binding) → (known (told n at f bs)).bound ≡ seen_told binding n at (known f).bound bs
bound-told n at f [] = refl
bound-told n at f (b ∷ bs) =
    bound-told n (at + 1) (cond (is_of n b) (Some (with_binding at b (known f))) f) bs ∙ ap (λ s. seen_told binding n (at + 1) s bs) (by (is_of n b))
  where
    by : (t : Bool) → (known (cond t (Some (with_binding at b (known f))) f)).bound ≡ cond (t && binding b) (seen_at at (known f).bound) (known f).bound
    by true = refl
    by false = refl

pub annotated-told : (n : Bytes) (at : ℕ) (f : Option Facts) (bs : List Binding) → (known (told n at f bs)).annotated ≡ seen_told annotation n at (known f).annotated bs
annotated-told n at f [] = refl
annotated-told n at f (b ∷ bs) =
    annotated-told n (at + 1) (cond (is_of n b) (Some (with_binding at b (known f))) f) bs ∙ ap (λ s. seen_told annotation n (at + 1) s bs) (by (is_of n b))
  where
    by : (t : Bool) → (known (cond t (Some (with_binding at b (known f))) f)).annotated ≡ cond (t && annotation b) (seen_at at (known f).annotated) (known f).annotated
    by true = refl
    by false = refl

abbrev pub find : (Binding → Bool) → Bytes → List Binding → Option Binding
find p n [] = None
find p n (b ∷ bs) = cond (is_of n b && p b) (Some b) (find p n bs)

-- the list from a place on
abbrev pub StandsAt : List Binding → ℕ → List Binding → Type 0
StandsAt all at bs = (k : ℕ) → slice_get bs k ≡ slice_get all (k + at)

stands_behind : (all : List Binding) (at : ℕ) (b : Binding) (bs : List Binding) → StandsAt all at (b ∷ bs) → StandsAt all (at + 1) bs
stands_behind all at b bs stands = λ k. let e : suc k + at ≡ k + (at + 1) = omega arith in stands (suc k) ∙ ap (slice_get all) e

stands_first : (all : List Binding) (at : ℕ) (b : Binding) (bs : List Binding) → StandsAt all at (b ∷ bs) → slice_get all at ≡ Some b
stands_first all at b bs stands = let e : 0 + at ≡ at = omega arith in sym (stands 0 ∙ ap (slice_get all) e)

pub first-seen : (p : Binding → Bool) (n : Bytes) (all : List Binding) (at : ℕ) (s : Seen) (bs : List Binding) → StandsAt all at bs
    → or_look all (seen_told p n at s bs).first None ≡ or_look all s.first (find p n bs)
first-seen p n all at s [] stands = refl
first-seen p n all at s (b ∷ bs) stands =
    first-seen p n all (at + 1) (cond (is_of n b && p b) (seen_at at s) s) bs (stands_behind all at b bs stands) ∙ by (is_of n b && p b) s.first refl
  where
    by : (t : Bool) (f : Option ℕ) → s.first ≡ f → or_look all (cond t (seen_at at s) s).first (find p n bs) ≡ or_look all s.first (cond t (Some b) (find p n bs))
    by true None e = rw e (stands_first all at b bs stands)
    by true (Some k) e = rw e refl
    by false f e = refl

abbrev pub after : List Binding → Option ℕ → Bool → List Binding → Option Binding
after all f true bs = None
after all None false bs = only_one bs
after all (Some at) false [] = slice_get all at
after all (Some at) false (b ∷ bs) = None

abbrev pub passing : (Binding → Bool) → Bytes → List Binding → List Binding
passing p n bs = filter (λ b. is_of n b && p b) bs

nothing_after : (all : List Binding) (f : Option ℕ) (bs : List Binding) → after all f true bs ≡ None
nothing_after all f bs = refl

pub only-seen : (p : Binding → Bool) (n : Bytes) (all : List Binding) (at : ℕ) (s : Seen) (bs : List Binding) → StandsAt all at bs
    → alone all (seen_told p n at s bs) ≡ after all s.first s.again (passing p n bs)
only-seen p n all at s [] stands = by s.first s.again
  where
    by : (f : Option ℕ) (again : Bool) → cond again None (or_look all f None) ≡ after all f again []
    by f true = refl
    by None false = refl
    by (Some k) false = refl
only-seen p n all at s (b ∷ bs) stands =
    only-seen p n all (at + 1) (cond (is_of n b && p b) (seen_at at s) s) bs (stands_behind all at b bs stands) ∙ by (is_of n b && p b) s
  where
    last : (xs : List Binding) → after all (Some at) false xs ≡ only_one (b ∷ xs)
    last [] = stands_first all at b bs stands
    last (x ∷ xs) = refl

    of : (f : Option ℕ) (again : Bool) (xs : List Binding) → after all (seen_at at (record { first = f; again = again })).first (seen_at at (record { first = f; again = again })).again xs ≡ after all f again (b ∷ xs)
    of None true xs = refl
    of None false xs = last xs
    of (Some k) true xs = refl
    of (Some k) false xs = refl

    by : (t : Bool) (r : Seen) → after all (cond t (seen_at at r) r).first (cond t (seen_at at r) r).again (passing p n bs) ≡ after all r.first r.again (cond t (b ∷ passing p n bs) (passing p n bs))
    by true r = of r.first r.again (passing p n bs)
    by false r = refl

-- ---- from nothing

stands_whole : (all : List Binding) → StandsAt all 0 all
stands_whole all = λ k. let e : k ≡ k + 0 = omega arith in ap (slice_get all) e

first_is_find : (n : Bytes) (bs : List Binding) → find binding n bs ≡ first_of n bs
first_is_find n [] = refl
first_is_find n (b ∷ bs) = ap (λ r. cond (is_of n b && binds b.kind) (Some b) r) (first_is_find n bs)

pub first_is : (n : Bytes) (bs : List Binding) → or_look bs (known (told n 0 None bs)).bound.first None ≡ first_of n bs
first_is n bs = ap (λ s. or_look bs s.first None) (bound-told n 0 None bs) ∙ first-seen binding n bs 0 unseen bs (stands_whole bs) ∙ first_is_find n bs

pub only_is : (n : Bytes) (bs : List Binding) → alone bs (known (told n 0 None bs)).bound ≡ only_binding n bs
only_is n bs = ap (alone bs) (bound-told n 0 None bs) ∙ only-seen binding n bs 0 unseen bs (stands_whole bs)

pub annotation_is : (n : Bytes) (bs : List Binding) → alone bs (known (told n 0 None bs)).annotated ≡ only_annotation n bs
annotation_is n bs = ap (alone bs) (annotated-told n 0 None bs) ∙ only-seen annotation n bs 0 unseen bs (stands_whole bs)

pub named_is : (n : Bytes) (bs : List Binding) → (known (told n 0 None bs)).named ≡ is_named n bs
named_is n bs = named-told n 0 None bs

pub fixed_is : (n : Bytes) (bs : List Binding) → (known (told n 0 None bs)).fixed ≡ is_fixed_in bs n
fixed_is n bs = fixed-told n 0 None bs

pub variable_is : (n : Bytes) (bs : List Binding) → (known (told n 0 None bs)).variable ≡ is_variable_of n bs
variable_is n bs = variable-told n 0 None bs

is_one-only : (bs : List Binding) → is_some (only_one bs) ≡ is_one bs
is_one-only [] = refl
is_one-only (b ∷ []) = refl
is_one-only (b ∷ c ∷ bs) = refl

-- whether there is an only one, of the option that stands for it
pub bound_once : (n : Bytes) (bs : List Binding) (b : Option Binding) → b ≡ only_binding n bs → is_some b ≡ is_bound_once n bs
bound_once n bs b e = ap is_some e ∙ is_one-only (filter (λ b. is_of n b && binds b.kind) bs)
