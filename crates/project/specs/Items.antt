-- What a file is read as, and at which paths it may stand.
use Rattle.std.specs.Prelude.{◌≡◌, ℕ, Some}
use Rattle.rv_names.specs.Keys.{Bytes, Parts}
use Rattle.project.specs.Paths.{kind_of_path}
use Rattle.project.specs.declared.item.Item.{Item}
use Rattle.project.specs.declared.item.Item.TheVariants as items
use Rattle.project.specs.declared.path.PathKind.TheVariants as kinds

-- the path is one of such an item
abbrev pub Fits : Bytes → Item → Type 0
Fits path (items.Module parsed) = (name : Parts) × (kind_of_path path ≡ Some (kinds.Module name))
Fits path (items.Models decls) = kind_of_path path ≡ Some kinds.Models
Fits path (items.Config config) = kind_of_path path ≡ Some kinds.Config

-- a live file: where it stands, what it is, and the length of its text in bytes
pub record FileParts : Type 0 where
  pub path : Bytes
  pub item : Item
  pub len : ℕ
