-- Files that are the same, wherever their items are kept, and what a check came to with such files.
use Rattle.std.specs.Prelude.{◌≡◌, ⊤, Option, Some, None}
use Rattle.std.specs.FinMap.{get}
use Rattle.rv_names.specs.Keys.{Bytes}
use Rattle.project.specs.Files.{FileMap}
use Rattle.project.specs.Items.{FileParts}
use Rattle.front.specs.Reading.{SameItem}
use Rattle.check_stream.specs.Progress.{Progress}

pub record AreSame (a b : FileParts) : Type 0 where
  pub path : a.path ≡ b.path
  pub item : SameItem a.item b.item
  pub len : a.len ≡ b.len

-- what stands at one path
abbrev pub SameThere : Option FileParts → Option FileParts → Type 0
SameThere None None = ⊤
SameThere None (Some b) = ⊥
SameThere (Some a) None = ⊥
SameThere (Some a) (Some b) = AreSame a b

abbrev pub SameFiles : FileMap → FileMap → Type 0
SameFiles a b = (path : Bytes) → SameThere (get a path) (get b path)

pub record SameProgress (a b : Progress) : Type 0 where
  pub files : SameFiles a.journal.files b.journal.files
  pub number : a.journal.number ≡ b.journal.number
  pub kept : a.journal.kept ≡ b.journal.kept
  pub refused : a.refused ≡ b.refused
