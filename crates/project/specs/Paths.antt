-- The paths of a project's files: what stands at each, and which files are one module.
use Rattle.std.specs.Prelude.{ℕ, ◌-◌, ◌==◌, ◌&&◌, nat_lt, eqb, Bool, true, false, List, [], ◌∷◌, ◌++◌, length, take, get_or, codes, if◌then◌else◌, Option, Some, None, option_map, option_and_then}
use Rattle.std.specs.List.{ends_with, list_all, slice_split}
use Rattle.rv_names.specs.Keys.{Bytes, Parts, bytes_equal}
use Rattle.taint_config.specs.Kinds.{is_ascii_identifier}
use Rattle.project.specs.declared.path.PathKind.{PathKind}
use Rattle.project.specs.declared.path.PathKind.TheVariants as kinds
use Rattle.project.specs.declared.path.Place.{Place}
use Rattle.project.specs.declared.path.Place.TheVariants as places
use Rattle.project.specs.declared.neighbour.Neighbour.{Neighbour}
use Rattle.project.specs.declared.neighbour.Neighbour.TheVariants.{Nobody, Hider, Hidden}

-- what stands before an ending, where the path has it
abbrev pub before : Bytes → Bytes → Option Bytes
before ending path = if ends_with eqb path ending then Some (take (length path - length ending) path) else None

-- the endings of Python files and of model files, and that of a package's own file, which stands in the package's folder
abbrev pub python_end : Bytes
python_end = codes ".py"

abbrev pub models_end : Bytes
models_end = codes ".pysa"

abbrev pub package_end : Bytes
package_end = codes "/__init__.py"

-- ---- modules (Language Reference, 5.2 and 5.3)

-- what stands between the slashes
abbrev pub segments : Bytes → List Bytes
segments = slice_split (λ b. b == 47)

-- the segments, where each is an ASCII identifier
abbrev pub names_in : Bytes → Option Parts
names_in path = if list_all is_ascii_identifier (segments path) then Some (segments path) else None

-- the file `__init__` of a folder is the package that the folder is
abbrev pub is_package : Parts → Bool
is_package names = nat_lt 1 (length names) && bytes_equal (get_or names (length names - 1) []) (codes "__init__")

abbrev pub module_name : Parts → Parts
module_name names = if is_package names then take (length names - 1) names else names

-- the name of the module at a path, where a module may stand there
abbrev pub module_at : Bytes → Option Parts
module_at path = option_map module_name (option_and_then names_in (before python_end path))

-- ---- what stands at a path

abbrev pub kind_of_path : Bytes → Option PathKind
kind_of_path path =
    if bytes_equal path (codes "taint.config") then Some kinds.Config else (
    if ends_with eqb path models_end then Some kinds.Models else option_map kinds.Module (module_at path))

-- the kind of file, without the name of the module
abbrev pub place_of : PathKind → Place
place_of kinds.Config = places.Config
place_of kinds.Models = places.Models
place_of (kinds.Module name) = places.Module

-- ---- two files of one module

-- of `a/b.py` it is `a/b/__init__.py`, which hides it: the package's own file is the module then. Nothing hides a package's own file
abbrev pub hider_at : Option Bytes → Neighbour
hider_at None = Nobody
hider_at (Some stem) = Hider (stem ++ package_end)

abbrev pub hidden_at : Bytes → Option Bytes → Neighbour
hidden_at plain None = Hidden plain
hidden_at plain (Some folder) = Nobody

abbrev pub neighbour_in : Bytes → Option Bytes → Neighbour
neighbour_in path None = hider_at (before python_end path)
neighbour_in path (Some folder) = hidden_at (folder ++ python_end) (before package_end (folder ++ python_end))

-- the other file that is the same module, if there is one: the one that would hide the file, or the one that it would hide
abbrev pub neighbour_of : Bytes → Neighbour
neighbour_of path = neighbour_in path (before package_end path)
