-- Edits, and the files after some of them.
use Rattle.std.specs.Prelude.{◌≡◌, ℕ, List, fold, option_map}
use Rattle.std.specs.Arc.{arc_value}
use Rattle.std.specs.FinMap.{FinMap, empty, get, insert, remove}
use Rattle.rv_names.specs.Keys.{Bytes, bytes_order}
use Rattle.project.specs.declared.edit.Edit.{Edit}
use Rattle.project.specs.declared.edit.Edit.TheVariants as edits
use Rattle.project.specs.declared.item.Item.{Item}
use Rattle.project.specs.Files.{FileMap, with_file}

-- what stands at which path
abbrev pub ItemMap : Type 0
ItemMap = FinMap bytes_order Item

abbrev pub after_edit : ItemMap → Edit → ItemMap
after_edit files (edits.Put path item) = insert files path (arc_value item)
after_edit files (edits.Drop path) = remove files path

-- the files after a list of edits, from none on
abbrev pub files_after : List Edit → ItemMap
files_after es = fold after_edit empty es

-- the files of a project hold these items
abbrev pub Hold : FileMap → ItemMap → Type 0
Hold files items = (path : Bytes) → get items path ≡ option_map (λ f. f.item) (get files path)

-- an edit of a project's files, where the text that is put has so many bytes
abbrev pub edited : FileMap → Edit → ℕ → FileMap
edited files (edits.Put path item) len = with_file files path (arc_value item) len
edited files (edits.Drop path) len = remove files path
