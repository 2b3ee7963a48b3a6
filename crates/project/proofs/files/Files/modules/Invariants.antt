use Rattle.std.proofs.Common.{map}
use Rattle.std.specs.Arc.{arc_value}
use Rattle.project.specs.Modules.{placed}
use Rattle.project.proofs.Listed.{Listing}
use Rattle.project.proofs.files.Files.modules.Given as goal

abbrev pub invariant-loop-path : goal.invariant-loop-path
invariant-loop-path l = Listing l.self (map (placed arc_value) l.items.items) l.path-iterator
