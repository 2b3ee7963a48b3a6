use Rattle.std.proofs.Common.{◌≡◌, ◌≤◌, vec_len}
use Rattle.std.specs.Vec.{vec_capacity}
use Rattle.ready_list.specs.Ring.{IsGrown}
use Rattle.ready_list.proofs.chain.add_alone.Given as goal

abbrev pub invariant-loop-place : goal.invariant-loop-place
invariant-loop-place l =
    (vec_len l.links ≡ l.place) × (l.places ≤ vec_capacity l.links) × IsGrown l.initial.links.items l.links.items l.place
