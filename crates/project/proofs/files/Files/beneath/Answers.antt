use Rattle.std.proofs.Common.{Some, None, sym, ap, ◌∙◌}
use Rattle.project.specs.Sums.{beneath, beneath_by, callables_at}
use Rattle.project.proofs.Steps.{found}
use Rattle.project.proofs.files.Files.beneath.Goals as goal

pub returns-in-Hider-clause-value : goal.returns-in-Hider-clause-value
unfolding beneath
returns-in-Hider-clause-value c = ap (beneath_by c.args.self.now) (sym c.in-Hider.is ∙ c.neighbour.ensures)

pub returns-in-Nobody-clause-value : goal.returns-in-Nobody-clause-value
unfolding beneath
returns-in-Nobody-clause-value c = ap (beneath_by c.args.self.now) (sym c.in-Nobody.is ∙ c.neighbour.ensures)

pub returns-in-None-clause-value : goal.returns-in-None-clause-value
unfolding beneath
returns-in-None-clause-value c =
    ap callables_at (sym (found c.self.inside.live.entries c.self.inside.text c.self.inside.given c.args.self.now c.in-Hidden.plain None c.self.invariant.0 c.self.view_is c.in-None.ensures.value))
    ∙ ap (beneath_by c.args.self.now) (sym c.in-Hidden.is ∙ c.neighbour.ensures)

pub returns-in-Some-clause-value : goal.returns-in-Some-clause-value
unfolding beneath
returns-in-Some-clause-value c =
    c.callables.ensures
    ∙ ap callables_at (sym (found c.self.inside.live.entries c.self.inside.text c.self.inside.given c.args.self.now c.in-Hidden.plain (Some c.in-Some.file.now) c.self.invariant.0 c.self.view_is c.in-Some.ensures.value))
    ∙ ap (beneath_by c.args.self.now) (sym c.in-Hidden.is ∙ c.neighbour.ensures)
