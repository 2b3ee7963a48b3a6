use Rattle.std.proofs.Common.{◌≡◌, ◌∙◌, ap, refl}
use Rattle.path_trees.specs.declared.marks.Port.{Port}
use Rattle.path_trees.specs.declared.marks.Mark.TheVariants.{Out}
use Rattle.rows.specs.Rules.{leads_to_cell}
use Rattle.rows.proofs.Gifts.{put_idle, put_made}
use Rattle.rows.proofs.outputs.put_out.Goals as goal

pub returns-in-Source : goal.returns-in-Source
returns-in-Source c = put_idle c.args.puts.now.items c.args.argument.now c.args.spot.now (λ s. ap (leads_to_cell s) c.in-Source.is)

pub returns-in-Sink : goal.returns-in-Sink
returns-in-Sink c = put_idle c.args.puts.now.items c.args.argument.now c.args.spot.now (λ s. ap (leads_to_cell s) c.in-Sink.is)

pub returns-in-Result : goal.returns-in-Result
returns-in-Result c =
    put_idle c.args.puts.now.items c.args.argument.now c.args.spot.now
    (λ s. ap (leads_to_cell s) c.in-Out.is ∙ ap (λ (z : Port). leads_to_cell s (Out z c.in-Out.path c.in-Out.flat)) c.in-Result.is)

pub returns-in_ok-push-in-Cell : goal.returns-in_ok-push-in-Cell
returns-in_ok-push-in-Cell c =
    put_made c.args.puts.now.items _ _ c.args.argument.now c.args.spot.now _ c.in_ok-push-in-Cell.ensures.items c.in_ok-cell-in-Cell.ensures c.in_ok-tree-in-Cell.ensures
    (λ s. ap (leads_to_cell s) c.in-Out.is ∙ ap (λ (z : Port). leads_to_cell s (Out z c.in-Out.path c.in-Out.flat)) c.in-Cell.is)
