use Rattle.std.proofs.Common.{◌≤◌, length}
use Rattle.path_trees.proofs.Cuts.{cut_full}
use Rattle.path_trees.proofs.marks.out_read_on.Goals as goal

pub returns : goal.returns
returns c =
    let full : 4 ≤ length c.args.path.now = rw (← c.steps.ensures.all) c.if-steps-lt4.false in
    rw (c.in_ok-port.ensures, c.in_ok-path-2.ensures) (cut_full c.args.port.now c.args.path.now c.args.step.now c.steps.ensures.short full)
