use Rattle.std.proofs.Common.{false, ap, ◌∙◌, subst, sym}
use Rattle.project.specs.Files.{IsFlatUnless, IsProject}
use Rattle.project.proofs.Flat.{list_none}
use Rattle.project.proofs.Maps.{files_in, files_none}
use Rattle.project.proofs.Projects.{project_none}
use Rattle.project.proofs.files.Files.new.Goals as goal

pub invariant_of-result : goal.invariant_of-result
invariant_of-result c = (
  subst (λ es. IsProject es 0 0) (sym c.new.ensures.empty) project_none,
  subst (λ es. IsFlatUnless false (files_in es)) (sym c.new.ensures.empty) (list_none false),
)

pub returns : goal.returns
returns c = ap files_in c.new.ensures.empty ∙ files_none
