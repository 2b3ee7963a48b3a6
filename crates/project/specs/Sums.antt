-- What one file is of the counts of a project, and what changes beside it as a package's own file is put or dropped.
use Rattle.std.specs.Prelude.{ℕ, Bool, cond, Option, Some, None}
use Rattle.std.specs.FinMap.{get}
use Rattle.rv_names.specs.Keys.{Bytes}
use Rattle.project.specs.declared.neighbour.Neighbour.{Neighbour}
use Rattle.project.specs.declared.neighbour.Neighbour.TheVariants.{Nobody, Hider, Hidden}
use Rattle.project.specs.Callables.{capped, item_callables}
use Rattle.project.specs.Files.{FileMap}
use Rattle.project.specs.Items.{FileParts}
use Rattle.project.specs.Paths.{neighbour_of}

abbrev pub text_at : Option FileParts → ℕ
text_at None = 0
text_at (Some file) = file.len

abbrev pub callables_at : Option FileParts → ℕ
callables_at None = 0
callables_at (Some file) = capped (item_callables file.item)

abbrev pub beneath_by : FileMap → Neighbour → ℕ
beneath_by files (Hidden plain) = callables_at (get files plain)
beneath_by files (Hider init) = 0
beneath_by files Nobody = 0

-- the callables of the file that the one at a path would hide
unfoldable pub beneath : FileMap → Bytes → ℕ
beneath files path = beneath_by files (neighbour_of path)

-- the callables that go as a file is put: those of the one that it replaces, or else of the one that it hides
abbrev pub replaced : Bool → ℕ → Option FileParts → ℕ
replaced hidden beneath None = beneath
replaced hidden beneath (Some old) = cond hidden 0 (capped (item_callables old.item))
