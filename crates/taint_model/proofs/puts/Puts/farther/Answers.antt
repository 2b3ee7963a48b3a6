use Rattle.std.proofs.Common.{ap, ◌∙◌, sym}
use Rattle.path_trees.specs.declared.moves.Move.TheVariants.{Bump}
use Rattle.path_trees.specs.Operations.{moved}
use Rattle.taint_model.specs.Puts.{tree_of}
use Rattle.taint_model.proofs.PutReads.{moved_empty}
use Rattle.taint_model.proofs.puts.Puts.farther.Goals as goal

pub returns-in-None : goal.returns-in-None
returns-in-None c = c.empty.ensures ∙ sym moved_empty ∙ ap (λ o. moved Bump (tree_of o)) c.in-None.ensures
