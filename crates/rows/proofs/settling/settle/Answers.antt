use Rattle.std.proofs.Common.{◌≡◌, ◌<◌, ◌∙◌, ℕ, length, subst, arith, sym, ap}
use Rattle.rows.proofs.Turns.{begins, first_within}
use Rattle.rows.proofs.settling.settle.Goals as goal

pub loop-row-init : goal.loop-row-init
loop-row-init g c = record {
  counted = c.requires.nodes;
  room = c.in_ok-list.ensures.room;
  well_formed = c.in_ok-list.ensures.well_formed;
  working = begins (g.I.Inputs.trees c.args.inputs.now) c.args.readers.now.rows.now c.args.nodes.now.items c.in_ok-list.list.ids c.requires.empty c.in_ok-list.ensures.all;
}

pub turn-requires-clause-row : goal.turn-requires-clause-row
turn-requires-clause-row g c =
    subst (λ (z : ℕ). c.in-Some.row < z) c.loop-row.invariant.room
    (first_within c.in-Some.row c.pop_front.new.self.ids c.loop-row.list c.in-Some.ensures.first c.loop-row.invariant.well_formed)
