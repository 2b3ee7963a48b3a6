use Rattle.std.proofs.Common.{◌+◌, ◌≤◌, sym, ap, ◌∙◌, arith, subst}
use Rattle.std.specs.Arc.{arc_value}
use Rattle.project.specs.Callables.{capped, item_callables}
use Rattle.project.specs.Files.{file_at}
use Rattle.project.proofs.Steps.{small_given, within_put}
use Rattle.project.proofs.files.Files.callables_within.Goals as goal

pub overflow_add-self-inside : goal.overflow_add-self-inside
overflow_add-self-inside c =
    let a = small_given c.self.inside.live.entries c.self.inside.text c.self.inside.given c.args.self.now c.self.invariant.0 c.self.view_is in
    let b = c.callables.ensures in
    omega arith

pub returns-then-self-callables : goal.returns-then-self-callables
returns-then-self-callables c =
    let v = file_at c.args.path.now (arc_value c.args.item.now) c.args.len in
    let own = c.callables.ensures ∙ ap (λ i. capped (item_callables i)) c.deref.ensures in
    sym (within_put c.self.inside.live.entries c.self.inside.text c.self.inside.given c.args.self.now c.args.path.now v c.args.most c.self.invariant.0 c.self.view_is (subst (λ n. c.self.inside.given + n ≤ c.args.most) own c.if-self-callables.true))
