use Rattle.std.proofs.Common.{◌≡◌, ◌<◌, ◌-◌, ◌++◌, ◌∷◌, [], ℕ, List, Bool, true, false, length, get_or, refl, arith}
use Rattle.std.proofs.lemmas.List.{get_or_read}
use Rattle.std.proofs.lemmas.Bool.{OnTrue_at, OnFalse_at}
use Rattle.rows.proofs.Indexes.{walk_start, walk_more, walk_less}
use Rattle.rows.proofs.readers.push_readers.Goals as goal

pub loop-at-init : goal.loop-at-init
loop-at-init c =
    let r = c.args.readers.now in
    let node = c.requires.node in
    let bound : c.args.node < length r.last.items = omega (arith, r.last.ok.0) in record {
      walk = walk_start r.rows.now c.args.node c.index-at.result.now r.last.items r.before.items c.args.list.now.ids c.requires.index bound (get_or_read r.last.items _ _ bound c.index-at.ensures 0);
      room = refl;
      well_formed = c.requires.well_formed;
    }

pub loop-at-smaller : goal.loop-at-smaller
loop-at-smaller c =
    let r = c.args.readers.now in
    let node = c.requires.node in
    let bound : c.args.node < length r.last.items = omega (arith, r.last.ok.0) in
    let small = c.loop-at.invariant.walk.small in
    let some : 0 < c.loop-at.at = omega (arith, c.loop-at-test.true) in
    let counted = c.requires.index.counted in
    let row : c.loop-at.at - 1 < length r.before.items = omega arith in
    walk_less r.rows.now c.args.node c.loop-at.at c.index-at-in-loop-at.result.now r.last.items r.before.items c.args.list.now.ids c.loop-at.list.ids c.requires.index bound some
    (get_or_read r.before.items _ _ row c.index-at-in-loop-at.ensures 0) c.loop-at.invariant.walk

pub loop-at-preserved : goal.loop-at-preserved
loop-at-preserved c =
    let r = c.args.readers.now in
    let node = c.requires.node in
    let bound : c.args.node < length r.last.items = omega (arith, r.last.ok.0) in
    let small = c.loop-at.invariant.walk.small in
    let some : 0 < c.loop-at.at = omega (arith, c.loop-at-test.true) in
    let counted = c.requires.index.counted in
    let row : c.loop-at.at - 1 < length r.before.items = omega arith in
    let push = c.push_back.ensures in record {
      walk = walk_more r.rows.now c.args.node c.loop-at.at c.index-at-in-loop-at.result.now r.last.items r.before.items c.args.list.now.ids c.loop-at.list.ids c.push_back.new.self.ids c.push_back.result c.requires.index bound some
          (get_or_read r.before.items _ _ row c.index-at-in-loop-at.ensures 0) push.refused.0 (λ e. OnTrue_at e push.added) (λ e. OnFalse_at e push.kept) c.loop-at.invariant.walk;
      room = let k = push.room in let m = c.loop-at.invariant.room in cc;
      well_formed = push.well_formed;
    }
