-- The least tree above a right side.
use Rattle.std.proofs.Common.{◌≡◌, ℕ, List}
use Rattle.path_trees.specs.declared.steps.Step.{Step}
use Rattle.path_trees.specs.declared.moves.Move.{Move}
use Rattle.path_trees.specs.declared.moves.Move.TheVariants.{Bump}
use Rattle.path_trees.specs.Trees.{TreeMap}
use Rattle.path_trees.specs.Operations.{moved}
use Rattle.path_trees.proofs.Finite.{below_refl}
use Rattle.rows.specs.declared.places.Place.{Place}
use Rattle.rows.specs.declared.places.Place.TheVariants.{Back}
use Rattle.rows.specs.declared.inequalities.Right.TheVariants.{Known, Local, Outer, Carried, Through, Wanted, Cells}
use Rattle.rows.specs.Families.{InputTrees, IsJoinOfCells}
use Rattle.rows.specs.Rules.{moved_all, carried, through, wanted}
use Rattle.rows.specs.Inequalities.{IsRight}
use Rattle.rows.proofs.Covers.{Meeting, Covered, covered_moved_all, covered_below, moved_all-mono}

pub cells_right : (I : InputTrees) (N : ℕ → TreeMap) (moves : List Move) (s : Step) (t u : TreeMap) → IsJoinOfCells I.puts s t → u ≡ moved_all moves t → IsRight I N (Cells moves s) u
cells_right I N moves s t u j e = rw e (record {
  above = λ h c m. moved_all-mono moves (moved Bump (I.puts h c)) t (j.above h c m);
  least = λ v w.
      let T : Meeting s → TreeMap = λ x. moved Bump (I.puts x.callable x.cell) in
      let covered : Covered T t = record {
        at = λ q d h. let k = j.made q d h in
            let x : Meeting s = record { callable = k.callable; cell = k.cell; meets_it = k.meets_it } in (x, k.stands);
      } in
      covered_below (λ (x : Meeting s). moved_all moves (T x)) (moved_all moves t) v (covered_moved_all T t moves covered) (λ x. w x.callable x.cell x.meets_it);
})

-- the other right sides are one tree
pub known_right : (I : InputTrees) (N : ℕ → TreeMap) (t u : TreeMap) → u ≡ t → IsRight I N (Known t) u
known_right I N t u e = rw e (record { above = below_refl t; least = λ v h. h })

pub local_right : (I : InputTrees) (N : ℕ → TreeMap) (moves : List Move) (n : ℕ) (u : TreeMap) → u ≡ moved_all moves (N n) → IsRight I N (Local moves n) u
local_right I N moves n u e = rw e (record { above = below_refl _; least = λ v h. h })

pub outer_right : (I : InputTrees) (N : ℕ → TreeMap) (moves : List Move) (g : ℕ) (p : Place) (u : TreeMap) → u ≡ moved_all moves (I.of g p) → IsRight I N (Outer moves g p) u
outer_right I N moves g p u e = rw e (record { above = below_refl _; least = λ v h. h })

pub carried_right : (I : InputTrees) (N : ℕ → TreeMap) (g i : ℕ) (u : TreeMap) → u ≡ carried (I.of g (Back i)) → IsRight I N (Carried g i) u
carried_right I N g i u e = rw e (record { above = below_refl _; least = λ v h. h })

pub through_right : (I : InputTrees) (N : ℕ → TreeMap) (g i n : ℕ) (u : TreeMap) → u ≡ through (N n) (I.of g (Back i)) → IsRight I N (Through g i n) u
through_right I N g i n u e = rw e (record { above = below_refl _; least = λ v h. h })

pub wanted_right : (I : InputTrees) (N : ℕ → TreeMap) (g i n : ℕ) (u : TreeMap) → u ≡ wanted (N n) (I.of g (Back i)) → IsRight I N (Wanted g i n) u
wanted_right I N g i n u e = rw e (record { above = below_refl _; least = λ v h. h })
