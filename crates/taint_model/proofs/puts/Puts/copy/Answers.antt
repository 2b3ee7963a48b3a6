use Rattle.std.proofs.Common.{ap, ◌∙◌, subst}
use Rattle.taint_model.specs.Puts.{HasNoEmptyTree, joined_puts}
use Rattle.taint_model.proofs.PutJoins.{join_puts_empty}
use Rattle.taint_model.proofs.puts.Puts.copy.Goals as goal

pub returns : goal.returns
returns c = c.in_ok-put_all.ensures ∙ ap (λ z. joined_puts z c.args.self.now) c.empty-copy.ensures ∙ join_puts_empty c.args.self.now (subst HasNoEmptyTree c.self.view_is c.self.invariant.held.some)
