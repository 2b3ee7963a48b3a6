use Rattle.rows.proofs.Gifts.{puts_none, puts_more}
use Rattle.rows.proofs.outputs.put_outs.Goals as goal

pub loop-entry-init : goal.loop-entry-init
loop-entry-init c = λ s. puts_none c.args.argument.now c.args.puts.now.items s

pub loop-entry-preserved : goal.loop-entry-preserved
loop-entry-preserved c = λ s.
    puts_more c.args.argument.now c.args.puts.now.items c.loop-entry.puts.items c.put_out.new.puts.items _ c.loop-entry.entry-index c.entry-item.result s c.loop-entry-test.true c.entry-item.is
    (c.loop-entry.invariant s) (c.in_ok-put_out.ensures s)
