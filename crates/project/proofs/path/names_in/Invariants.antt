use Rattle.std.proofs.Common.{length}
use denote.Text.{Utf8}
use denote.Shadow.{shadow}
use Rattle.project.proofs.Segments.{Reads}
use Rattle.project.proofs.path.names_in.Given as goal

abbrev pub invariant-each_name : goal.invariant-each_name
invariant-each_name l = shadow (Utf8 l.rest) × Reads l.names.items l.rest l.path

abbrev pub decreases-each_name : goal.decreases-each_name
decreases-each_name l = length l.rest
