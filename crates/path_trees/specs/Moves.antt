-- Moves: operations that take each entry of a tree by itself.
use Rattle.std.specs.Prelude.{ℕ, ◌+◌, Bool, false, cond, List, [], ◌∷◌, Option, Some, None, min}
use Rattle.path_trees.specs.declared.steps.Step.{Step}
use Rattle.path_trees.specs.declared.marks.Mark.{Mark}
use Rattle.path_trees.specs.declared.spots.Spot.{Spot}
use Rattle.path_trees.specs.declared.moves.Move.{Move}
use Rattle.path_trees.specs.declared.moves.Move.TheVariants.{Same, Bump, Part, Under, Without, Collapse}
use Rattle.path_trees.specs.Steps.{meets, step_equal}
use Rattle.path_trees.specs.Spots.{flattened, cut, read_on}

-- the part at s of what stands at a path: the rest of the path, where its first step meets s. What stands at the root stays there
abbrev pub part_spot : Step → List Step → Mark → Option Spot
part_spot s [] mark = Some (record { path = []; mark = read_on s mark })
part_spot s (r ∷ path) mark = cond (meets r s) (Some (record { path = path; mark = mark })) None

-- the path begins with s itself
abbrev pub begins_with : Step → List Step → Bool
begins_with s [] = false
begins_with s (r ∷ path) = step_equal r s

-- where an entry goes, if it stays at all
abbrev pub move_spot : Move → Spot → Option Spot
move_spot Same p = Some p
move_spot Bump p = Some p
move_spot (Part s) p = part_spot s p.path p.mark
move_spot (Under s) p = Some (cut (record { path = s ∷ p.path; mark = p.mark }))
move_spot (Without s) p = cond (begins_with s p.path) None (Some p)
move_spot Collapse p = Some (record { path = []; mark = flattened p.mark })

-- its distance there
abbrev pub shift : Move → ℕ → ℕ
shift Bump d = min (d + 1) 63
shift Same d = d
shift (Part s) d = d
shift (Under s) d = d
shift (Without s) d = d
shift Collapse d = d
