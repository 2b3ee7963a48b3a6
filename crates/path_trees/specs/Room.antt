-- How much room is left above a tree: how many of all entries that a program can hold do not stand in it.
use Rattle.std.specs.Prelude.{ℕ, ◌+◌, ◌^◌, List, [], ◌∷◌, ◌++◌, Bool, true, false, cond, nat_le, map, zero, suc, Option, Some, None}
use Rattle.std.specs.FinMap.{get}
use Rattle.rv_names.specs.Keys.{Bytes}
use Rattle.path_trees.specs.declared.steps.Step.{Step}
use Rattle.path_trees.specs.declared.steps.Step.TheVariants.{Attr, Key, Any, Keys}
use Rattle.path_trees.specs.declared.marks.Port.{Port}
use Rattle.path_trees.specs.declared.marks.Port.TheVariants.{Result, Cell}
use Rattle.path_trees.specs.declared.marks.Mark.{Mark}
use Rattle.path_trees.specs.declared.marks.Mark.TheVariants.{Source, Sink, Out}
use Rattle.path_trees.specs.declared.spots.Spot.{Spot}
use Rattle.path_trees.specs.Trees.{TreeMap}

-- whether a distance is there that is not greater than d
abbrev pub is_within : Option ℕ → ℕ → Bool
is_within None d = false
is_within (Some n) d = nat_le n d

-- how many entries of a list do not stand in the tree
abbrev pub missing : TreeMap → List (Spot × ℕ) → ℕ
missing t [] = 0
missing t (e ∷ es) = cond (is_within (get t e.0) e.1) 0 1 + missing t es

-- the numbers below n
unfoldable pub below : ℕ → List ℕ
below zero = []
below (suc n) = n ∷ below n

-- f of each item of the one list and each of the other
abbrev pub all_of : {A B C : Type 0} → (A → B → C) → List A → List B → List C
all_of f [] ys = []
all_of f (x ∷ xs) ys = map (f x) ys ++ all_of f xs ys

-- the lists of at most n of some items
unfoldable pub words : {A : Type 0} → List A → ℕ → List (List A)
words items zero = [] ∷ []
words items (suc n) = [] ∷ all_of (λ x xs. x ∷ xs) items (words items n)

unfoldable pub all_texts : List Bytes
all_texts = words (below (2 ^ 8)) (2 ^ 64)

unfoldable pub all_steps : List Step
all_steps = map Attr all_texts ++ (map Key all_texts ++ Any ∷ Keys ∷ [])

unfoldable pub all_paths : List (List Step)
all_paths = words all_steps 4

unfoldable pub all_ports : List Port
all_ports = Result ∷ map Cell all_steps

unfoldable pub all_outs : List Mark
all_outs =
    all_of (λ (o : Port × List Step) (flat : Bool). Out o.0 o.1 flat) (all_of (λ (port : Port) (path : List Step). (port, path)) all_ports all_paths) (true ∷ false ∷ [])

unfoldable pub all_marks : List Mark
all_marks = all_of Source (below (2 ^ 8)) (below (2 ^ 32)) ++ (all_of Sink (below (2 ^ 8)) (below (2 ^ 32)) ++ all_outs)

-- the spots and distances that a program can hold
unfoldable pub universe : List (Spot × ℕ)
universe = all_of (λ (s : Spot) (d : ℕ). (s, d)) (all_of (λ (p : List Step) (m : Mark). let s : Spot = record { path = p; mark = m } in s) all_paths all_marks) (below 64)

unfoldable pub room : TreeMap → ℕ
room t = missing t universe
