-- The modules of a project, and how many callables they have.
use Rattle.std.specs.Prelude.{ℕ, if◌then◌else◌, List, [], filter, Option, Some, None, unwrap_or}
use Rattle.std.specs.List.{filter_map, sum_by}
use Rattle.std.specs.Arc.{arc_value}
use Rattle.std.specs.FinMap.{entries, keys}
use Rattle.rv_names.specs.Keys.{Bytes, Parts}
use Rattle.py_ast.specs.Parsed.{Kept}
use Rattle.project.specs.declared.item.Item.{Item}
use Rattle.project.specs.declared.item.Item.TheVariants as items
use Rattle.project.specs.Callables.{callables}
use Rattle.project.specs.Files.{FileMap, is_hidden}
use Rattle.project.specs.Items.{FileParts}
use Rattle.project.specs.Paths.{module_at}

-- a module: its name, its path, and the text with its tree
abbrev pub Placed : Type 0
Placed = Parts × Bytes × Kept

-- a module with its tree as it is shared
abbrev pub placed : {A : Type 0} → (A → Kept) → Parts × Bytes × A → Placed
placed tree m = (m.0, m.1, tree m.2)

abbrev pub name_at : Bytes → Parts
name_at path = unwrap_or (module_at path) []

abbrev pub module_of_item : Bytes → Item → Option Placed
module_of_item path (items.Module parsed) = Some (name_at path, path, arc_value parsed)
module_of_item path (items.Models decls) = None
module_of_item path (items.Config config) = None

abbrev pub module_in : FileMap → Bytes × FileParts → Option Placed
module_in files e = if is_hidden files e.0 then None else module_of_item e.0 e.1.item

-- the modules, in order of path
abbrev pub modules : FileMap → List Placed
modules files = filter_map (module_in files) (entries files)

-- the paths of the files that are hidden, in order
abbrev pub shadowed : FileMap → List Bytes
shadowed files = filter (is_hidden files) (keys files)

-- the callables of all modules
unfoldable pub callables_in : FileMap → ℕ
callables_in files = sum_by (λ (m : Placed). callables m.2.tree) (modules files)
