-- What one token of lookahead has to know of a phrase. A token's kind is a number, which its grammar gives it.
use Rattle.std.specs.Prelude.{ℕ, Bool, true, false, cond, not, ◌||◌, ◌&&◌, ◌==◌, List, [], ◌∷◌, ◌++◌}

-- the kind is one of these
abbrev pub has : List ℕ → ℕ → Bool
has [] k = false
has (x ∷ xs) k = (x == k) || has xs k

-- no kind is in both
abbrev pub apart : List ℕ → List ℕ → Bool
apart [] ys = true
apart (x ∷ xs) ys = not (has ys x) && apart xs ys

-- each kind of the first is one of the second
abbrev pub within : List ℕ → List ℕ → Bool
within [] ys = true
within (x ∷ xs) ys = has ys x && within xs ys

-- a token stands at the front, and its kind is one of these
abbrev pub starts : {T : Type 0} → (T → ℕ) → List ℕ → List T → Bool
starts class s [] = false
starts class s (t ∷ ts) = has s (class t)

-- no token of these kinds stands at the front
abbrev pub ends : {T : Type 0} → (T → ℕ) → List ℕ → List T → Bool
ends class s [] = true
ends class s (t ∷ ts) = not (has s (class t))

-- The sets of a phrase: the kinds that may begin it, the kinds with which a whole one may go on, and whether it may be empty.
pub record Sets : Type 0 where
  pub first : List ℕ
  pub more : List ℕ
  pub nullable : Bool

-- Sets t claim no less than s, and the same of how a phrase begins.
abbrev pub fits : Sets → Sets → Bool
fits s t = (within s.first t.first && within t.first s.first) && (within s.more t.more && (not s.nullable || t.nullable))

abbrev pub token_sets : List ℕ → Sets
token_sets codes = record { first = codes; more = []; nullable = false }

abbrev pub nothing_sets : Sets
nothing_sets = record { first = []; more = []; nullable = true }

-- one phrase, which is not empty, and then another
abbrev pub then_sets : Sets → Sets → Sets
then_sets s t = record { first = s.first; more = t.more ++ cond t.nullable s.more []; nullable = false }

-- one phrase, which is not empty, or another
abbrev pub or_sets : Sets → Sets → Sets
or_sets s t = record { first = s.first ++ t.first; more = s.more ++ (t.more ++ cond t.nullable s.first []); nullable = t.nullable }

-- any number of phrases, of which none is empty
abbrev pub many_sets : Sets → Sets
many_sets s = record { first = s.first; more = s.more ++ s.first; nullable = true }

-- one item of a series, which begins with these kinds and is not empty
abbrev pub item_sets : List ℕ → List ℕ → Sets
item_sets first more = record { first = first; more = more; nullable = false }

-- a series, of which the first item begins with these, and any item with one of all
abbrev pub series_sets : List ℕ → List ℕ → List ℕ → Sets
series_sets first more all = record { first = first; more = more ++ all; nullable = true }
