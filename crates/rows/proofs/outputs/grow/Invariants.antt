use Rattle.std.proofs.Common.{◌≡◌, ℕ, ◌≤◌, ◌-◌, vec_len}
use Rattle.rows.specs.Families.{tree_at}
use Rattle.rows.proofs.outputs.grow.Given as goal

abbrev pub invariant-loop-alloc : goal.invariant-loop-alloc
invariant-loop-alloc l = record {
  more : vec_len l.fn.trees ≤ vec_len l.trees;
  same : (k : ℕ) → tree_at l.trees.items k ≡ tree_at l.fn.trees.items k;
}

abbrev pub decreases-loop-alloc : goal.decreases-loop-alloc
decreases-loop-alloc l = l.count - vec_len l.trees
