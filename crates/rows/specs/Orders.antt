-- What the trees of an incremental run keep over every step, and the states that lists of steps lead to.
use Rattle.std.specs.Prelude.{◌≡◌, ℕ, Bool, true, false, cond, Option, Some, None}
use Rattle.std.specs.Option.{MatchOption}
use Rattle.std.specs.FinMap.{empty}
use Rattle.path_trees.specs.Trees.{Below}
use Rattle.rows.specs.declared.places.Place.{Place}
use Rattle.rows.specs.Families.{Family, Families, InputTrees}
use Rattle.rows.specs.Inequalities.{Solves, IsLeast}
use Rattle.rows.specs.Programs.{Bodies, inputs_of, SolvesAll, IsLeastOfAll, LessWhereRead, Reads}

-- the trees of some callables, and nothing of the others
abbrev pub only : (ℕ → Bool) → Families → Families
only P M f p = cond (P f) (M f p) empty

-- a part: its members read nothing of the trees of the others
abbrev pub IsPart : Bodies → (ℕ → Bool) → Families → Type 0
IsPart bodies P M = (g : ℕ) → P g ≡ true → (f : ℕ) (p : Place) → Reads (bodies g) f p → P f ≡ false → M f p ≡ empty

-- a solution of the rows of the members alone
abbrev pub SolvesPart : Bodies → (ℕ → Bool) → Families → Type 0
SolvesPart bodies P G = (g : ℕ) → P g ≡ true → Solves (inputs_of (bodies g) (only P G)) (G g) (bodies g).rows

-- on each part the trees are below each solution of the part alone, and each callable's are below what its rows give for the
-- present trees
pub record CoreFacts (bodies : Bodies) (M : Families) : Type 0 where
  pub parts : (P : ℕ → Bool) → IsPart bodies P M → (G : Families) → SolvesPart bodies P G → (g : ℕ) (p : Place) → P g ≡ true → Below (M g p) (G g p)
  pub ready : (g : ℕ) (T : Family) → Solves (inputs_of (bodies g) M) T (bodies g).rows → (p : Place) → Below (M g p) (T p)

-- an edit with a closed reset set: the trees of its callables become empty, the others stay, and none of these reads
-- anything of an old tree of a callable of the set
pub record Resets (old new : Bodies) (R : ℕ → Bool) (M N : Families) : Type 0 where
  pub bodies : (g : ℕ) → R g ≡ false → new g ≡ old g
  pub emptied : (g : ℕ) (p : Place) → R g ≡ true → N g p ≡ empty
  pub stays : (g : ℕ) (p : Place) → R g ≡ false → N g p ≡ M g p
  pub closed : (g : ℕ) → R g ≡ false → (f : ℕ) (p : Place) → Reads (old g) f p → R f ≡ true → M f p ≡ empty

-- of a task that is out, for a callable that was not reset since: what its body reads of the trees that it was given is
-- below the present ones, and the callable's trees are below what the task will give
pub record TaskFacts (bodies : Bodies) (M : Families) (g : ℕ) (J : Families) : Type 0 where
  pub uses : (f : ℕ) (p : Place) → Reads (bodies g) f p → Below (J f p) (M f p)
  pub under : (T : Family) → Solves (inputs_of (bodies g) J) T (bodies g).rows → (p : Place) → Below (M g p) (T p)

-- families that differ at one callable
pub record Gives (M N : Families) (g : ℕ) (T : Family) : Type 0 where
  pub here : (p : Place) → N g p ≡ T p
  pub there : (f : ℕ) (p : Place) → (f ≡ g → ⊥) → N f p ≡ M f p

-- the tasks that are out, each with the trees of all callables when it was taken
abbrev pub Tasks : Type 0
Tasks = ℕ → Option Families

abbrev pub TasksFacts : Bodies → Families → Tasks → Type 0
TasksFacts bodies M out = (g : ℕ) → MatchOption (out g) (Unit {0}) (TaskFacts bodies M g)

-- the states that lists of steps lead to: a task is taken, its result is given, a task is given back without one, and an
-- edit resets. A result that is out of date is given back
pub data Reached : Bodies → Families → Tasks → Type 0 where
  start : {bodies : Bodies} {M : Families} {out : Tasks} → ((g : ℕ) (p : Place) → M g p ≡ empty) → ((g : ℕ) → out g ≡ None) → Reached bodies M out
  take : {bodies : Bodies} {M : Families} {out : Tasks} (before : Tasks) (g : ℕ) → Reached bodies M before
      → before g ≡ None → out g ≡ Some M → ((f : ℕ) → (f ≡ g → ⊥) → out f ≡ before f) → Reached bodies M out
  give : {bodies : Bodies} {N : Families} {out : Tasks} (M : Families) (before : Tasks) (g : ℕ) (J : Families) (T : Family) → Reached bodies M before
      → before g ≡ Some J → IsLeast (inputs_of (bodies g) J) (bodies g).rows T → Gives M N g T → out g ≡ None → ((f : ℕ) → (f ≡ g → ⊥) → out f ≡ before f) → Reached bodies N out
  back : {bodies : Bodies} {M : Families} {out : Tasks} (before : Tasks) (g : ℕ) → Reached bodies M before
      → out g ≡ None → ((f : ℕ) → (f ≡ g → ⊥) → out f ≡ before f) → Reached bodies M out
  edit : {new : Bodies} {N : Families} {out : Tasks} (old : Bodies) (R : ℕ → Bool) (M : Families) (before : Tasks) → Reached old M before
      → Resets old new R M N → ((g : ℕ) → R g ≡ true → out g ≡ None) → ((g : ℕ) → R g ≡ false → out g ≡ before g) → Reached new N out

-- whatever the order of steps, where all rows are solved the trees are the least solution
abbrev pub AnyOrderSettles : Type 0
AnyOrderSettles = (bodies : Bodies) (M : Families) (out : Tasks) → Reached bodies M out → SolvesAll bodies M → IsLeastOfAll bodies M

-- a callable whose rows are solved stays so at a result of another one, where no tree changes that it reads of that one
abbrev pub SettledStays : Type 0
SettledStays =
    (bodies : Bodies) (M N : Families) (g f : ℕ) (T : Family) → Gives M N g T → (f ≡ g → ⊥) → ((p : Place) → Reads (bodies f) g p → M g p ≡ N g p)
    → Solves (inputs_of (bodies f) M) (M f) (bodies f).rows → Solves (inputs_of (bodies f) N) (N f) (bodies f).rows

-- and one that has the least trees for the present ones keeps them
abbrev pub LeastStays : Type 0
LeastStays =
    (bodies : Bodies) (M N : Families) (g f : ℕ) (T : Family) → Gives M N g T → (f ≡ g → ⊥) → ((p : Place) → Reads (bodies f) g p → M g p ≡ N g p)
    → IsLeast (inputs_of (bodies f) M) (bodies f).rows (M f) → IsLeast (inputs_of (bodies f) N) (bodies f).rows (N f)

-- a callable whose result is kept has the least trees for the present ones, where what its body was given is what it reads of
-- the trees before, and where no tree changes that it reads of itself
abbrev pub GivenSettles : Type 0
GivenSettles =
    (bodies : Bodies) (M N : Families) (g : ℕ) (I : InputTrees) (T : Family) → Gives M N g T → ((p : Place) → Reads (bodies g) g p → M g p ≡ N g p)
    → LessWhereRead (bodies g).rows I (inputs_of (bodies g) M) → LessWhereRead (bodies g).rows (inputs_of (bodies g) M) I
    → IsLeast I (bodies g).rows T → IsLeast (inputs_of (bodies g) N) (bodies g).rows (N g)

-- the places of some sort are kept, and bodies read no others. Where the kept trees are below each solution, and are those
-- of the least trees of all bodies for them, these least trees are the least solution
abbrev pub ModelsSettle : Type 0
ModelsSettle =
    (bodies : Bodies) (Kept : Place → Bool) (M T : Families) → ((g f : ℕ) (p : Place) → Reads (bodies g) f p → Kept p ≡ true)
    → ((G : Families) → SolvesAll bodies G → (g : ℕ) (p : Place) → Kept p ≡ true → Below (M g p) (G g p))
    → ((g : ℕ) → IsLeast (inputs_of (bodies g) M) (bodies g).rows (T g)) → ((g : ℕ) (p : Place) → Kept p ≡ true → M g p ≡ T g p) → IsLeastOfAll bodies T
