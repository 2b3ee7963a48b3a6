use Rattle.taint_model.proofs.PutFacts.{empty_puts}
use Rattle.taint_model.proofs.puts.Puts.is_empty.Goals as goal

pub returns : goal.returns
returns c =
    let e = empty_puts c.self.inside.trees.entries c.args.self.now c.self.invariant c.self.view_is in
    (λ h. e.0 (c.is_empty.ensures.0 h), λ h. c.is_empty.ensures.1 (e.1 h))
