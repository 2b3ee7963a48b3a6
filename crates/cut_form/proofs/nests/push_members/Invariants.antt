use Rattle.std.proofs.Common.{◌≡◌, ◌++◌, drop, map, option_map}
use Rattle.cut_form.specs.Nests.{link_of, members_in}
use Rattle.cut_form.proofs.nests.push_members.Given as goal

abbrev pub invariant-loop-step : goal.invariant-loop-step
invariant-loop-step l = option_map (λ members. l.names.items ++ members) (members_in (map link_of (drop l.step-index l.steps)))
    ≡ option_map (λ members. l.initial.names.items ++ members) (members_in (map link_of l.steps))
