use Rattle.std.proofs.Common.{◌≡◌, ◌<◌, ◌+◌, ◌∙◌, Bool, true, false, length, get_or, ap, sym, arith}
use Rattle.path_trees.specs.Steps.{meets}
use Rattle.path_trees.specs.declared.moves.Move.TheVariants.{Bump}
use Rattle.path_trees.specs.Operations.{joined, moved}
use Rattle.rows.proofs.Putters.{joins_none, skip_more, take_another}
use Rattle.rows.proofs.told.ToldInputs.cells.Goals as goal

pub loop-put-init : goal.loop-put-init
loop-put-init c = joins_none c.args.step.now c.empty-all.result c.empty-all.ensures

pub loop-put-preserved-then-not-may_read : goal.loop-put-preserved-then-not-may_read
loop-put-preserved-then-not-may_read c =
    let P = c.args.self.now.puts.items in
    let e = c.deref-put-items.ensures.value in
    let l : c.loop-put.put-index < length P = omega (arith, ap length e) in
    let is : c.put-item.result ≡ get_or P c.loop-put.put-index c.put-item.result = let i = c.put-item.is in cc in
    let no : c.may_read.result ≡ false = grind (arith, c.if-not-may_read.true) in
    skip_more P c.loop-put.put-index c.put-item.result c.args.step.now c.loop-put.all l is (sym c.may_read.ensures ∙ no) c.loop-put.invariant

pub loop-put-preserved : goal.loop-put-preserved
loop-put-preserved c =
    let P = c.args.self.now.puts.items in
    let e = c.deref-put-items.ensures.value in
    let l : c.loop-put.put-index < length P = omega (arith, ap length e) in
    let is : c.put-item.result ≡ get_or P c.loop-put.put-index c.put-item.result = let i = c.put-item.is in cc in
    let yes : c.may_read.result ≡ true = grind (arith, c.if-not-may_read.false) in
    take_another P c.loop-put.put-index c.put-item.result c.args.step.now c.loop-put.all c.join_in.new.self l is (sym c.may_read.ensures ∙ yes)
    (c.in_ok-join_in.ensures.exact ∙ ap (joined c.loop-put.all) c.in_ok-farther.ensures) c.loop-put.invariant
