use Rattle.std.proofs.Common.{sym, ◌∙◌, ap}
use Rattle.gen_project.specs.Draws.{next_draw}
use Rattle.gen_project.proofs.Steps.{draw-next}
use Rattle.gen_project.proofs.draws.Draws.take.Goals as goal

pub invariant_of-self : goal.invariant_of-self
invariant_of-self c = record {
  walked = c.step-drawn.ensures ∙ ap next_draw c.args.self.now.walked ∙ sym (draw-next c.args.self.now.number c.args.self.now.taken);
}
