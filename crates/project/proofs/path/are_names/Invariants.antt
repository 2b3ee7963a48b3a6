use Rattle.std.proofs.Common.{◌≡◌, length}
use Rattle.std.specs.List.{list_all}
use Rattle.taint_config.specs.Kinds.{is_ascii_identifier}
use denote.Text.{Utf8}
use denote.Shadow.{shadow}
use Rattle.project.specs.Paths.{segments}
use Rattle.project.proofs.path.are_names.Given as goal

abbrev pub invariant-each_name : goal.invariant-each_name
invariant-each_name l = shadow (Utf8 l.rest) × (list_all is_ascii_identifier (segments l.rest) ≡ list_all is_ascii_identifier (segments l.path))

abbrev pub decreases-each_name : goal.decreases-each_name
decreases-each_name l = length l.rest
