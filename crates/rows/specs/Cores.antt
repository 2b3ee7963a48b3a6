-- An incremental core as a machine over numbers of callables: its state, what holds of every state, and its steps.
use Rattle.std.specs.Prelude.{◌≡◌, ◌⊎◌, ◌≤◌, ◌<◌, ◌+◌, ℕ, List, [], Bool, true, false, Option, Some, None, Contains, cond, slice_get}
use Rattle.std.specs.FinMap.{empty}
use Rattle.path_trees.specs.declared.steps.Step.{Step}
use Rattle.path_trees.specs.Trees.{Below}
use Rattle.rows.specs.declared.places.Place.{Place}
use Rattle.rows.specs.declared.places.Place.TheVariants.{Put}
use Rattle.rows.specs.Families.{Family, Families, InputTrees}
use Rattle.rows.specs.Inequalities.{Solves, IsLeast}
use Rattle.rows.specs.Programs.{Bodies, inputs_of, LessWhereRead, Reads, RowsReadCell}
use Rattle.rows.specs.Orders.{CoreFacts, Resets, Gives}

-- a task that is out: the stamp that its callable had when it was taken, and what its body was given
pub record CoreTask : Type 0 where
  pub stamp : ℕ
  pub given : InputTrees

-- the bodies of all callables (one without rows where there is none), their trees, the number of the edit that last reset
-- each, the ready list, the tasks out, the number of edits
pub record CoreState : Type 0 where
  pub bodies : Bodies
  pub trees : Families
  pub stamps : ℕ → ℕ
  pub ready : List ℕ
  pub out : ℕ → Option CoreTask
  pub edits : ℕ

-- what a body reads of the present trees
abbrev pub present : CoreState → ℕ → InputTrees
present s g = inputs_of (s.bodies g) s.trees

abbrev pub IsReady : CoreState → ℕ → Type 0
IsReady s g = Contains s.ready g

-- a callable is out by a task that was taken since it was last reset
abbrev pub IsFresh : CoreState → ℕ → CoreTask → Type 0
IsFresh s g t = (s.out g ≡ Some t) × (t.stamp ≡ s.stamps g)

-- what holds of every state
pub record StateFacts (s : CoreState) : Type 0 where
  -- no callable's stamp is ahead of the edits, and no task's ahead of its callable's
  pub stamped : (g : ℕ) → s.stamps g ≤ s.edits
  pub since : (g : ℕ) (t : CoreTask) → s.out g ≡ Some t → t.stamp ≤ s.stamps g
  -- on each part the trees are below each solution of it, and each callable's are below what its rows give for the present
  pub core : CoreFacts s.bodies s.trees
  -- who is neither ready nor out has the least trees for the present ones
  pub settled : (g : ℕ) → (IsReady s g → ⊥) → s.out g ≡ None → IsLeast (present s g) (s.bodies g).rows (s.trees g)
  -- what such a task was given is below the present trees where its body reads them, and the same where its callable isn't ready
  pub given : (g : ℕ) (t : CoreTask) → IsFresh s g t → LessWhereRead (s.bodies g).rows t.given (present s g)
  pub same : (g : ℕ) (t : CoreTask) → IsFresh s g t → (IsReady s g → ⊥) → LessWhereRead (s.bodies g).rows (present s g) t.given
  -- the present trees of its callable are below what it will give
  pub under : (g : ℕ) (t : CoreTask) → IsFresh s g t → (T : Family) → Solves t.given T (s.bodies g).rows → (p : Place) → Below (s.trees g p) (T p)
  -- whose task is out of date is ready, or has no body
  pub stale : (g : ℕ) (t : CoreTask) → s.out g ≡ Some t → t.stamp < s.stamps g → IsReady s g ⊎ ((s.bodies g).rows ≡ [])

-- the tasks out are others at one callable alone
abbrev pub OutBut : (ℕ → Option CoreTask) → (ℕ → Option CoreTask) → ℕ → Option CoreTask → Type 0
OutBut old new g t = (new g ≡ t) × ((f : ℕ) → (f ≡ g → ⊥) → new f ≡ old f)

-- the steps: a task is taken; one that is out of date comes home, and nothing else changes; a result is kept, after which
-- whoever reads a tree that changed is ready; a task is given back without a result, and its callable is ready; an edit
-- resets a closed set, whose callables are ready then
pub data CoreStep : CoreState → CoreState → Type 0 where
  take : {s : CoreState} {ready : List ℕ} {out : ℕ → Option CoreTask} (g : ℕ) (t : CoreTask) → s.out g ≡ None → t.stamp ≡ s.stamps g
      → LessWhereRead (s.bodies g).rows t.given (present s g) → LessWhereRead (s.bodies g).rows (present s g) t.given
      → OutBut s.out out g (Some t) → ((f : ℕ) → (f ≡ g → ⊥) → Contains s.ready f → Contains ready f)
      → CoreStep s (record { bodies = s.bodies; trees = s.trees; stamps = s.stamps; ready = ready; out = out; edits = s.edits })
  stale : {s : CoreState} {out : ℕ → Option CoreTask} (g : ℕ) (t : CoreTask) → s.out g ≡ Some t → t.stamp < s.stamps g → OutBut s.out out g None
      → CoreStep s (record { bodies = s.bodies; trees = s.trees; stamps = s.stamps; ready = s.ready; out = out; edits = s.edits })
  keep : {s : CoreState} {trees : Families} {ready : List ℕ} {out : ℕ → Option CoreTask} (g : ℕ) (t : CoreTask) (T : Family) → IsFresh s g t
      → IsLeast t.given (s.bodies g).rows T → Gives s.trees trees g T → OutBut s.out out g None → ((f : ℕ) → Contains s.ready f → Contains ready f)
      → ((f : ℕ) → Contains ready f ⊎ ((p : Place) → Reads (s.bodies f) g p → s.trees g p ≡ trees g p))
      → CoreStep s (record { bodies = s.bodies; trees = trees; stamps = s.stamps; ready = ready; out = out; edits = s.edits })
  back : {s : CoreState} {ready : List ℕ} {out : ℕ → Option CoreTask} (g : ℕ) → OutBut s.out out g None → ((f : ℕ) → Contains s.ready f → Contains ready f)
      → Contains ready g ⊎ ((s.bodies g).rows ≡ [])
      → CoreStep s (record { bodies = s.bodies; trees = s.trees; stamps = s.stamps; ready = ready; out = out; edits = s.edits })
  edit : {s : CoreState} {bodies : Bodies} {trees : Families} {stamps : ℕ → ℕ} {ready : List ℕ} (R : ℕ → Bool) → Resets s.bodies bodies R s.trees trees
      → ((g : ℕ) → R g ≡ true → (stamps g ≡ s.edits + 1) × (Contains ready g ⊎ ((bodies g).rows ≡ [])))
      → ((g : ℕ) → R g ≡ false → (stamps g ≡ s.stamps g) × (Contains s.ready g → Contains ready g))
      → CoreStep s (record { bodies = bodies; trees = trees; stamps = stamps; ready = ready; out = s.out; edits = s.edits + 1 })

-- a core without files: no callable has rows or trees, and no task is out
pub record IsStart (s : CoreState) : Type 0 where
  pub rows : (g : ℕ) → (s.bodies g).rows ≡ []
  pub trees : (g : ℕ) (p : Place) → s.trees g p ≡ empty
  pub stamps : (g : ℕ) → s.stamps g ≡ 0
  pub out : (g : ℕ) → s.out g ≡ None

-- the states that lists of steps lead to
pub data IsReached : CoreState → Type 0 where
  starts : {s : CoreState} → IsStart s → IsReached s
  after : {n : CoreState} (s : CoreState) → IsReached s → CoreStep s n → IsReached n

-- a reset set, told by lists of callees and by the cells that bodies read: who isn't in it keeps its body, has no callee in
-- it, and reads no cell into which a member put something before the edit
pub record IsClosed (old new : Bodies) (R : ℕ → Bool) (M : Families) : Type 0 where
  pub bodies : (g : ℕ) → R g ≡ false → new g ≡ old g
  pub callees : (g k f : ℕ) → R g ≡ false → slice_get (old g).callees k ≡ Some f → R f ≡ false
  pub cells : (g f : ℕ) (c : Step) → R g ≡ false → RowsReadCell (old g).rows c → R f ≡ true → M f (Put c) ≡ empty

-- the trees of its members become empty, the others stay
abbrev pub reset : (ℕ → Bool) → Families → Families
reset R M g p = cond (R g) empty (M g p)
