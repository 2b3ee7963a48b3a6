use Rattle.std.proofs.Common.{ap, ◌∙◌, subst, sym}
use Rattle.std.specs.FinMap.{insert}
use Rattle.taint_model.specs.Puts.{IsPuts}
use Rattle.taint_model.proofs.PutFacts.{insert_put, is_puts_put, puts_of, puts_put, rises}
use Rattle.taint_model.proofs.puts.Puts.insert.Goals as goal

pub invariant_of-self-2 : goal.invariant_of-self-2
invariant_of-self-2 c =
    subst IsPuts (sym (c.in_ok-insert.ensures.entries ∙ insert_put c.args.cell c.args.tree c.self.inside.trees.entries))
    (is_puts_put c.self.inside.trees.entries c.args.cell c.args.tree c.self.invariant c.know.ensures c.know-2.ensures c.requires)

pub returns-clause-ok : goal.returns-clause-ok
returns-clause-ok c =
    ap puts_of (c.in_ok-insert.ensures.entries ∙ insert_put c.args.cell c.args.tree c.self.inside.trees.entries)
    ∙ puts_put c.self.inside.trees.entries c.args.cell c.args.tree (rises c.self.invariant)
    ∙ ap (λ p. insert p c.args.cell c.args.tree) c.self.view_is
