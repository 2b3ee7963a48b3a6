-- The live files of a project: a finite map from a path to the file there.
use Rattle.std.specs.Prelude.{◌≡◌, ℕ, ◌+◌, ◌≤◌, nat_le, nat_lt, ◌&&◌, Bool, true, false, cond, IsTrue, List, if◌then◌else◌, Option, Some, None}
use Rattle.std.specs.List.{sum_by}
use Rattle.std.specs.FinMap.{FinMap, contains_key, entries, from_sorted, get, insert, is_sorted, len}
use Rattle.rv_names.specs.Keys.{Bytes, bytes_order}
use Rattle.project.specs.declared.faults.Which.{Which}
use Rattle.project.specs.declared.faults.Which.TheVariants as which
use Rattle.project.specs.declared.item.Item.{Item}
use Rattle.project.specs.declared.neighbour.Neighbour.{Neighbour}
use Rattle.project.specs.declared.neighbour.Neighbour.TheVariants.{Nobody, Hider, Hidden}
use Rattle.project.specs.Callables.{capped, item_callables}
use Rattle.project.specs.Items.{FileParts, Fits}
use Rattle.project.specs.Limits.{files_limit, text_limit}
use Rattle.project.specs.Paths.{neighbour_of}

abbrev pub FileMap : Type 0
FileMap = FinMap bytes_order FileParts

abbrev pub file_at : Bytes → Item → ℕ → FileParts
file_at path item len = record { path = path; item = item; len = len }

-- what a live file keeps beside these
pub record IsFile (path : Bytes) (item : Item) (callables : ℕ) (neighbour : Neighbour) : Type 0 where
  pub fits : Fits path item
  pub counted : callables ≡ capped (item_callables item)
  pub beside : neighbour ≡ neighbour_of path

-- the files once such a one stands at a path
abbrev pub with_file : FileMap → Bytes → Item → ℕ → FileMap
with_file files path item len = insert files path (file_at path item len)

-- ---- limits

-- the bytes of all texts
unfoldable pub text_of : FileMap → ℕ
text_of files = sum_by (λ (e : Bytes × FileParts). e.1.len) (entries files)

-- the first of these two counts that is past its limit
abbrev pub first_past : ℕ → ℕ → Option Which
first_past files text =
    if nat_lt files_limit files then Some which.Files else (
    if nat_lt text_limit text then Some which.Text else None)

abbrev pub first_over : FileMap → Option Which
first_over files = first_past (len files) (text_of files)

-- there is room for one more file of so much text
abbrev pub has_room : FileMap → ℕ → Bool
has_room files more = nat_lt (len files) files_limit && nat_le (text_of files + more) text_limit

-- what holds of the files of every project
pub record AreFiles (files : FileMap) : Type 0 where
  pub stand : (path : Bytes) (file : FileParts) → get files path ≡ Some file → path ≡ file.path
  pub fit : (path : Bytes) (file : FileParts) → get files path ≡ Some file → Fits file.path file.item
  pub few : len files ≤ files_limit
  pub small : text_of files ≤ text_limit

-- ---- two files of one module

-- `a.py` is hidden, and is no module, while `a/__init__.py` is live
abbrev pub is_hidden_by : FileMap → Neighbour → Bool
is_hidden_by files (Hider init) = contains_key files init
is_hidden_by files (Hidden plain) = false
is_hidden_by files Nobody = false

abbrev pub is_hidden : FileMap → Bytes → Bool
is_hidden files path = is_hidden_by files (neighbour_of path)

-- a file with this neighbour would hide another
abbrev pub hides : Neighbour → Bool
hides (Hidden plain) = true
hides (Hider init) = false
hides Nobody = false

-- no file is hidden where no package's own file was put
abbrev pub IsFlatUnless : Bool → FileMap → Type 0
IsFlatUnless packages files = packages ≡ false → (path : Bytes) → is_hidden files path ≡ false

-- how many callables a file gives the project, each file's own as 32 bits hold it
abbrev pub given_by : FileMap → Bytes → Item → ℕ
given_by files path item = cond (is_hidden files path) 0 (capped (item_callables item))

-- and all files
unfoldable pub given_by_all : FileMap → ℕ
given_by_all files = sum_by (λ (e : Bytes × FileParts). given_by files e.0 e.1.item) (entries files)

-- what the map of a project's files keeps, with the sums beside it
pub record IsProject (es : List (Bytes × FileParts)) (text : ℕ) (given : ℕ) : Type 0 where
  pub rising : IsTrue (is_sorted bytes_order es)
  pub files : AreFiles (from_sorted es)
  pub text_is : text ≡ text_of (from_sorted es)
  pub given_is : given ≡ given_by_all (from_sorted es)
