use Rattle.std.proofs.Common.{subst}
use Rattle.project.specs.Files.{AreFiles}
use Rattle.project.proofs.files.Files.know.Goals as goal

pub returns : goal.returns
returns c = subst AreFiles c.self.view_is c.self.invariant.0.files
