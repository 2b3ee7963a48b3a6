use Rattle.std.proofs.lemmas.Result.{IfOk-weaker}
use Rattle.rows.specs.Families.{tree_at}
use Rattle.rows.proofs.RightTrees.{cells_right}
use Rattle.rows.proofs.values.value.Goals as goal

pub returns : goal.returns
returns g c =
    rw c.in-Cells.is (IfOk-weaker c.moved_by-in-Cells.result _ _ (λ t e. cells_right (g.I.Inputs.trees c.args.inputs.now) (tree_at c.args.nodes.now) c.in-Cells.moves c.in-Cells.step c.in_ok-cells-in-Cells.cells t c.in_ok-cells-in-Cells.ensures e) c.moved_by-in-Cells.ensures)
