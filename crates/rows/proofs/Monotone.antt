-- Right sides are monotone, in what other callables give and in the trees of the nodes.
use Rattle.std.proofs.Common.{ℕ, ◌≤◌, Bool, true, false, cond, List, inl, inr, arith}
use Rattle.std.specs.FinMap.{empty, entries}
use Rattle.path_trees.specs.declared.steps.Step.{Step}
use Rattle.path_trees.specs.declared.marks.Port.TheVariants.{Result, Cell}
use Rattle.path_trees.specs.declared.marks.Mark.{Mark}
use Rattle.path_trees.specs.declared.marks.Mark.TheVariants.{Source, Sink, Out}
use Rattle.path_trees.specs.declared.spots.Spot.{Spot}
use Rattle.path_trees.specs.declared.moves.Move.TheVariants.{Bump}
use Rattle.path_trees.specs.Moves.{shift}
use Rattle.path_trees.specs.Trees.{TreeMap, Below, with_entry}
use Rattle.path_trees.proofs.Finite.{below_refl, below_trans, entry_stands, stands_entry}
use Rattle.path_trees.proofs.TreeLaws.{below_within, graft-mono, sub-mono, taken-mono, applied-mono, shift-mono}
use Rattle.rows.specs.declared.places.Place.TheVariants.{Back}
use Rattle.rows.specs.declared.inequalities.Right.{Right}
use Rattle.rows.specs.declared.inequalities.Right.TheVariants.{Known, Local, Outer, Carried, Through, Wanted, Cells}
use Rattle.rows.specs.Families.{InputTrees, Less}
use Rattle.rows.specs.Rules.{goes_on, carried_entry, carried, leads_to_result, leads_to_cell, through_entry, through, put_entry, put_through, wanted_mark, wanted_entry, wanted}
use Rattle.rows.specs.Inequalities.{RightBelow}
use Rattle.rows.proofs.Joins.{Falls, join_of-mono}
use Rattle.rows.proofs.Covers.{moved_all-mono, cells_reading}

one_nearer : (s : Spot) (d e : ℕ) → d ≤ e → Below (with_entry empty s e) (with_entry empty s d)
one_nearer s d e h = record {
  at = λ q f k. stands_entry empty s d q f (elim (entry_stands empty s e q f k) [ inl p ↦ inl (p.0, let w = p.1 in omega arith) | inr p ↦ inr p ]);
}

cond-mono : (b : Bool) (t u v : TreeMap) → Below t u → Below (cond b t v) (cond b u v)
cond-mono true t u v h = h
cond-mono false t u v h = below_refl v

carried_falls : Falls carried_entry
carried_falls = record { at = λ s d e h. cond-mono (goes_on s.mark) _ _ empty (one_nearer s (shift Bump d) (shift Bump e) (shift-mono Bump d e h)) }

pub carried-mono : (b c : TreeMap) → Below b c → Below (carried b) (carried c)
carried-mono b c h = join_of-mono carried_entry carried_entry (entries b) (entries c) (λ s d. below_refl (carried_entry s d)) carried_falls (below_within h)

pub through-mono : (t u b c : TreeMap) → Below t u → Below b c → Below (through t b) (through u c)
through-mono t u b c h k =
    join_of-mono (through_entry t) (through_entry u) (entries b) (entries c)
    (λ s d. cond-mono (leads_to_result s.mark) _ _ empty (applied-mono s.path s.mark t u h))
    (record { at = λ s d e l. below_refl (through_entry u s d) }) (below_within k)

pub put_through-mono : (s : Step) (t u b c : TreeMap) → Below t u → Below b c → Below (put_through s t b) (put_through s u c)
put_through-mono s t u b c h k =
    join_of-mono (put_entry s t) (put_entry s u) (entries b) (entries c)
    (λ q d. cond-mono (leads_to_cell s q.mark) _ _ empty (applied-mono q.path q.mark t u h))
    (record { at = λ q d e l. below_refl (put_entry s u q d) }) (below_within k)

wanted_mark-mono : (t u : TreeMap) (p : List Step) (m : Mark) → Below t u → Below (wanted_mark t p m) (wanted_mark u p m)
wanted_mark-mono t u p (Source k l) h = below_refl empty
wanted_mark-mono t u p (Sink k l) h = below_refl empty
wanted_mark-mono t u p (Out Result path flat) h = graft-mono p _ _ (taken-mono flat _ _ (sub-mono path t u h))
wanted_mark-mono t u p (Out (Cell c) path flat) h = below_refl empty

pub wanted-mono : (t u b c : TreeMap) → Below t u → Below b c → Below (wanted t b) (wanted u c)
wanted-mono t u b c h k =
    join_of-mono (wanted_entry t) (wanted_entry u) (entries b) (entries c) (λ s d. wanted_mark-mono t u s.path s.mark h)
    (record { at = λ s d e l. below_refl (wanted_entry u s d) }) (below_within k)

pub less_refl : (I : InputTrees) → Less I I
less_refl I = record { of = λ g p. below_refl (I.of g p); puts = λ s q d k. k }

pub right-mono : (I J : InputTrees) (N M : ℕ → TreeMap) (r : Right) (u v : TreeMap) → Less I J → ((n : ℕ) → Below (N n) (M n)) → Below u v → RightBelow J M r u → RightBelow I N r v
right-mono I J N M (Known t) u v i n h w = below_trans w h
right-mono I J N M (Local moves k) u v i n h w = below_trans (moved_all-mono moves _ _ (n k)) (below_trans w h)
right-mono I J N M (Outer moves g p) u v i n h w = below_trans (moved_all-mono moves _ _ (i.of g p)) (below_trans w h)
right-mono I J N M (Carried g k) u v i n h w = below_trans (carried-mono _ _ (i.of g (Back k))) (below_trans w h)
right-mono I J N M (Through g k m) u v i n h w = below_trans (through-mono _ _ _ _ (n m) (i.of g (Back k))) (below_trans w h)
right-mono I J N M (Wanted g k m) u v i n h w = below_trans (wanted-mono _ _ _ _ (n m) (i.of g (Back k))) (below_trans w h)
right-mono I J N M (Cells moves s) u v i n h w =
    λ f c m. below_trans (cells_reading I.puts J.puts moves s u (i.puts s) w f c m) h
