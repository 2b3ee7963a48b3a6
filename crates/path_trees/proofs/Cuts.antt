-- Paths that are full.
use Rattle.std.proofs.Common.{◌≡◌, ◌≤◌, List, [], ◌∷◌, ◌++◌, refl, arith, length, true}
use Rattle.path_trees.specs.declared.steps.Step.{Step}
use Rattle.path_trees.specs.declared.marks.Port.{Port}
use Rattle.path_trees.specs.declared.marks.Mark.TheVariants.{Out}
use Rattle.path_trees.specs.Spots.{cut_out}

-- an out whose path is full becomes flat where it would go on
pub cut_full : (port : Port) (p : List Step) (s : Step) → length p ≤ 4 → 4 ≤ length p → Out port p true ≡ cut_out port (p ++ s ∷ [])
cut_full port [] s h k = absurd (omega arith)
cut_full port (a ∷ []) s h k = absurd (omega arith)
cut_full port (a ∷ b ∷ []) s h k = absurd (omega arith)
cut_full port (a ∷ b ∷ c ∷ []) s h k = absurd (omega arith)
cut_full port (a ∷ b ∷ c ∷ d ∷ []) s h k = refl
cut_full port (a ∷ b ∷ c ∷ d ∷ e ∷ p) s h k = absurd (omega arith)
