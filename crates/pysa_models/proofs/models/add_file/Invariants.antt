use Rattle.std.proofs.Common.{◌≡◌, ◌++◌, map, drop}
use Rattle.pysa_models.specs.Models.{file_models}
use Rattle.pysa_models.specs.Views.{model_at}
use Rattle.pysa_models.proofs.models.add_file.Given as goal

-- what was added, and what is still to be added, is all
abbrev pub invariant-loop-decl : goal.invariant-loop-decl
invariant-loop-decl l = map model_at l.models.items ++ file_models l.path (drop l.decl-index l.decls) ≡ map model_at l.initial.models.items ++ file_models l.path l.decls
