-- Steps of access paths: which of them meet, how they are ordered, and which a program can hold.
use Rattle.std.specs.Prelude.{ℕ, Bool, true, false, ◌<◌, ◌≤◌, ◌^◌, ◌&&◌, List, [], ◌∷◌, length, slice_index}
use Rattle.std.specs.Ordering.{nat_cmp, on, then_cmp}
use Rattle.std.specs.Cmp.Lexicographic.{slice_cmp}
use Rattle.std.specs.declared.cmp.Ordering.{Ordering}
use Rattle.rv_names.specs.Keys.{Bytes, bytes_equal, bytes_order}
use Rattle.path_trees.specs.declared.steps.Step.{Step}
use Rattle.path_trees.specs.declared.steps.Step.TheVariants.{Attr, Key, Any, Keys}

-- the same step
abbrev pub step_equal : Step → Step → Bool
step_equal (Attr a) (Attr b) = bytes_equal a b
step_equal (Key a) (Key b) = bytes_equal a b
step_equal Any Any = true
step_equal Keys Keys = true
step_equal r s = false

-- steps meet where they are equal, or one is any key and the other a key
abbrev pub meets : Step → Step → Bool
meets (Attr a) (Attr b) = bytes_equal a b
meets (Key a) (Key b) = bytes_equal a b
meets (Key a) Any = true
meets Any (Key b) = true
meets Any Any = true
meets Keys Keys = true
meets r s = false

-- the steps of two paths meet one by one, over the shorter length
abbrev pub paths_meet : List Step → List Step → Bool
paths_meet [] q = true
paths_meet (s ∷ p) [] = true
paths_meet (s ∷ p) (r ∷ q) = meets s r && paths_meet p q

-- attributes come first, then keys, then any key, then the keys themselves
abbrev pub step_rank : Step → ℕ
step_rank (Attr a) = 0
step_rank (Key a) = 1
step_rank Any = 2
step_rank Keys = 3

-- the name of an attribute, or the text of a key
abbrev pub step_text : Step → Bytes
step_text (Attr a) = a
step_text (Key a) = a
step_text Any = []
step_text Keys = []

-- steps are ordered by their kind, and then by their texts
abbrev pub step_order : Step → Step → Ordering
step_order = then_cmp (on step_rank nat_cmp) (on step_text bytes_order)

-- and paths by the first step that differs
abbrev pub path_order : List Step → List Step → Ordering
path_order = slice_cmp step_order

-- a text that a program can hold
pub record IsHeldText (text : Bytes) : Type 0 where
  pub bytes : (k : ℕ) → slice_index text k < 2 ^ 8
  pub short : length text < 2 ^ 64

-- a step that a program can hold
abbrev pub IsHeldStep : Step → Type 0
IsHeldStep (Attr a) = IsHeldText a
IsHeldStep (Key a) = IsHeldText a
IsHeldStep Any = Unit {0}
IsHeldStep Keys = Unit {0}

-- the steps of a path that a program can hold
abbrev pub AreHeldSteps : List Step → Type 0
AreHeldSteps [] = Unit {0}
AreHeldSteps (s ∷ p) = IsHeldStep s × AreHeldSteps p

-- a path that a program can hold: at most four steps
pub record IsHeldPath (p : List Step) : Type 0 where
  pub short : length p ≤ 4
  pub steps : AreHeldSteps p
