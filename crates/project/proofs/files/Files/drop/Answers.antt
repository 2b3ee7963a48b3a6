use Rattle.std.proofs.Common.{◌≡◌, false, Option, Some, None, refl, sym, ap, ◌∙◌, subst}
use Rattle.std.specs.Prelude.{is_some}
use Rattle.std.specs.FinMap.{get, remove}
use Rattle.project.specs.Items.{FileParts}
use Rattle.project.specs.Files.{IsFlatUnless, IsProject, given_by_all, text_of}
use Rattle.project.proofs.Flat.{list_remove}
use Rattle.project.proofs.Maps.{files_in, files_remove, lookup_get, rises}
use Rattle.project.proofs.Projects.{project_remove}
use Rattle.project.proofs.Steps.{absent_same}
use Rattle.project.proofs.files.Files.drop.Goals as goal

pub invariant_of-self : goal.invariant_of-self
invariant_of-self c =
    let es = c.self.inside.live.entries in (
      subst (λ es. IsProject es c.text_without-text.result c.given_without-given.result) (sym c.taken-dropped.ensures.entries)
          (project_remove es c.args.path.now c.self.inside.text c.self.inside.given c.text_without-text.result c.given_without-given.result c.self.invariant.0
          (c.text_without-text.ensures ∙ ap (λ m. text_of (remove m c.args.path.now)) (sym c.self.view_is))
          (c.given_without-given.ensures ∙ ap (λ m. given_by_all (remove m c.args.path.now)) (sym c.self.view_is))),
      subst (λ es. IsFlatUnless c.self.inside.packages (files_in es)) (sym c.taken-dropped.ensures.entries)
          (list_remove es c.args.path.now c.self.inside.packages c.self.invariant.0.rising c.self.invariant.1),
    )

pub returns-clause-files : goal.returns-clause-files
returns-clause-files c =
    let es = c.self.inside.live.entries in
    ap files_in c.taken-dropped.ensures.entries ∙ files_remove es c.args.path.now (rises es c.self.invariant.0.rising) ∙ ap (λ m. remove m c.args.path.now) c.self.view_is

pub returns-clause-live : goal.returns-clause-live
returns-clause-live c =
    let es = c.self.inside.live.entries in
    c.taken-dropped.ensures.live ∙ ap is_some (lookup_get c.args.path.now es (rises es c.self.invariant.0.rising) ∙ ap (λ m. get m c.args.path.now) c.self.view_is)

none : (o : Option FileParts) → is_some o ≡ false → o ≡ None
none None h = refl
none (Some file) h = absurd cc

pub returns-clause-absent : goal.returns-clause-absent
returns-clause-absent c = λ h.
    let es = c.self.inside.live.entries in
    let found = lookup_get c.args.path.now es (rises es c.self.invariant.0.rising) ∙ ap (λ m. get m c.args.path.now) c.self.view_is in
    ap files_in c.taken-dropped.ensures.entries
    ∙ files_remove es c.args.path.now (rises es c.self.invariant.0.rising)
    ∙ ap (λ m. remove m c.args.path.now) c.self.view_is
    ∙ absent_same c.args.self.now c.args.path.now (none (get c.args.self.now c.args.path.now) (sym (ap is_some found) ∙ sym c.taken-dropped.ensures.live ∙ h))
