use Rattle.std.proofs.Common.{sym, ap, ◌∙◌, subst}
use Rattle.std.specs.Prelude.{is_some}
use Rattle.project.specs.Files.{IsFlatUnless, is_hidden_by}
use Rattle.project.proofs.Maps.{lookup_get, rises}
use Rattle.std.specs.FinMap.{get}
use Rattle.project.proofs.files.Files.is_hidden.Goals as goal

pub returns-then-not-self : goal.returns-then-not-self
returns-then-not-self c =
    sym (subst (IsFlatUnless c.self.inside.packages) c.self.view_is c.self.invariant.1 c.if-not-self.true c.args.file.now.path)

pub returns-in-Hider : goal.returns-in-Hider
returns-in-Hider c =
    c.contains_key.ensures
    ∙ ap is_some (lookup_get c.in-Hider.init c.self.inside.live.entries (rises c.self.inside.live.entries c.self.invariant.0.rising) ∙ ap (λ m. get m c.in-Hider.init) c.self.view_is)
    ∙ ap (is_hidden_by c.args.self.now) (sym c.in-Hider.is ∙ c.neighbour.ensures)
