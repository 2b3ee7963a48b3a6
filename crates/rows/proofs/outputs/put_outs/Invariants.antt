use Rattle.std.proofs.Common.{◌≡◌, take}
use Rattle.path_trees.specs.declared.steps.Step.{Step}
use Rattle.path_trees.specs.Trees.{pairs_of}
use Rattle.path_trees.specs.Operations.{joined}
use Rattle.rows.specs.Rules.{join_of, put_entry}
use Rattle.rows.specs.Solutions.{put_at}
use Rattle.rows.proofs.outputs.put_outs.Given as goal

abbrev pub invariant-loop-entry : goal.invariant-loop-entry
invariant-loop-entry l = (c : Step) → put_at l.puts.items c ≡ joined (put_at l.fn.puts.items c) (join_of (put_entry c l.argument) (pairs_of (take l.entry-index l.entries)))
