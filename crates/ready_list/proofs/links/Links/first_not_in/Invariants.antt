use Rattle.std.proofs.Common.{◌-◌}
use Rattle.ready_list.proofs.Walks.{IsWalk}
use Rattle.ready_list.proofs.links.Links.first_not_in.Given as goal

abbrev pub invariant-loop : goal.invariant-loop
invariant-loop l = IsWalk l.self-inside.chain.next.items l.self.ids l.flags (l.end - l.counter) l.place
