use Rattle.std.proofs.Common.{ap, ◌∙◌}
use Rattle.stream.specs.State.{State}
use Rattle.stream.proofs.Held.{held_given}
use Rattle.stream.proofs.stream.Stream.next_at_hand.Goals as goal

pub returns-in-Command-clause-kept : goal.returns-in-Command-clause-kept
returns-in-Command-clause-kept c = held_given c.self.inside.bytes.items c.self.inside.start c.in_ok-next.len ∙ ap (λ (s : State). s.pending) c.self.view_is
