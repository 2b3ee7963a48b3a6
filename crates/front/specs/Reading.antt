-- What a file is, or why it is refused: the first that holds of a path where nothing may stand, a file that is too long, bytes that are
-- no text, and the fault of the text, by what stands at the path.
use Rattle.std.specs.Prelude.{◌≡◌, ◌<◌, ◌≤◌, [], chars, length, Some, None}
use Rattle.std.specs.Arc.{arc_value}
use Rattle.std.specs.Str.{IsUtf8}
use Rattle.rv_names.specs.Keys.{Bytes}
use Rattle.py_ast.specs.Parsed.{Kept, IsSpelled}
use Rattle.py_ast.specs.ScopeFaults.{HasNoScopeFault}
use Rattle.py_parser.specs.Refusals.{IsFaulty}
use Rattle.pysa_syntax.specs.Faults.{HasModels}
use Rattle.pysa_syntax.specs.Laws.{HasFault}
use Rattle.taint_config.specs.Config.{ConfigParts, file_config}
use Rattle.taint_config.specs.Faults.{file_faults, first_fault}
use Rattle.project.specs.Limits.{file_limit}
use Rattle.project.specs.Paths.{kind_of_path, place_of}
use Rattle.project.specs.declared.item.Item.{Item}
use Rattle.project.specs.declared.item.Item.TheVariants as items
use Rattle.project.specs.declared.path.PathKind.{PathKind}
use Rattle.project.specs.declared.path.Place.{Place}
use Rattle.project.specs.declared.path.Place.TheVariants as places
use Rattle.front.specs.declared.faults.ReadFault.{ReadFault}
use Rattle.front.specs.declared.faults.ReadFault.TheVariants as faults

-- ---- paths and texts

-- such a file may stand at the path
abbrev pub StandsAs : Bytes → Place → Type 0
StandsAs path place = (kind : PathKind) × (kind_of_path path ≡ Some kind) × (place ≡ place_of kind)

-- nothing may stand at the path
abbrev pub Misplaced : Bytes → ReadFault → Type 0
Misplaced path faults.BadPath = kind_of_path path ≡ None
Misplaced path _ = ⊥

-- the bytes are a text that isn't too long
pub record IsText (bytes : Bytes) : Type 0 where
  pub small : length bytes ≤ file_limit
  pub text : IsUtf8 bytes

-- why they are none: the first of two causes
abbrev pub Unread : Bytes → ReadFault → Type 0
Unread bytes faults.TooLarge = file_limit < length bytes
Unread bytes faults.NotUtf8 = (length bytes ≤ file_limit) × (IsUtf8 bytes → ⊥)
Unread bytes _ = ⊥

-- ---- what a text is, by what stands at the path

-- a Python file: the text spells the module, whose scopes have no fault
pub record IsParsed (text : Bytes) (kept : Kept) : Type 0 where
  pub text_is : kept.text ≡ text
  pub spelled : IsSpelled text kept.tree
  pub scopes : HasNoScopeFault kept.tree

-- a configuration: the text has no fault, and says this
pub record IsConfigured (text : Bytes) (config : ConfigParts) : Type 0 where
  pub faultless : file_faults text ≡ []
  pub config_is : config ≡ file_config text

abbrev pub IsPython : Bytes → Item → Type 0
IsPython text (items.Module parsed) = IsParsed text (arc_value parsed)
IsPython text _ = ⊥

abbrev pub IsModels : Bytes → Item → Type 0
IsModels text (items.Models decls) = HasModels (chars text) (arc_value decls)
IsModels text _ = ⊥

abbrev pub IsConfiguration : Bytes → Item → Type 0
IsConfiguration text (items.Config config) = IsConfigured text (arc_value config)
IsConfiguration text _ = ⊥

-- by the kind of files that may stand at the path, and by what stands there
abbrev pub ReadsAt : Place → Bytes → Item → Type 0
ReadsAt places.Module text item = IsPython text item
ReadsAt places.Models text item = IsModels text item
ReadsAt places.Config text item = IsConfiguration text item

abbrev pub ReadsAs : PathKind → Bytes → Item → Type 0
ReadsAs kind = ReadsAt (place_of kind)

-- ---- the one fault of a text; want of memory is none

abbrev pub FailsAsPython : Bytes → ReadFault → Type 0
FailsAsPython text (faults.Python fault) = IsFaulty text fault
FailsAsPython text _ = ⊥

abbrev pub FailsAsModels : Bytes → ReadFault → Type 0
FailsAsModels text (faults.Models fault) = HasFault (chars text) fault
FailsAsModels text _ = ⊥

abbrev pub FailsAsConfiguration : Bytes → ReadFault → Type 0
FailsAsConfiguration text (faults.Config fault) = first_fault (file_faults text) ≡ Some fault
FailsAsConfiguration text _ = ⊥

abbrev pub FailsAt : Place → Bytes → ReadFault → Type 0
FailsAt places.Module text fault = FailsAsPython text fault
FailsAt places.Models text fault = FailsAsModels text fault
FailsAt places.Config text fault = FailsAsConfiguration text fault

abbrev pub FailsAs : PathKind → Bytes → ReadFault → Type 0
FailsAs kind = FailsAt (place_of kind)

-- ---- files

-- the file with these bytes at the path is the item
pub record Accepted (path bytes : Bytes) (item : Item) : Type 0 where
  pub kind : PathKind
  pub stands : kind_of_path path ≡ Some kind
  pub text : IsText bytes
  pub reads : ReadsAs kind bytes item

-- something may stand at the path
abbrev pub MayStand : Bytes → Type 0
MayStand path = (kind : PathKind) × (kind_of_path path ≡ Some kind)

-- a text that may stand there, and has the fault
pub record Misread (path bytes : Bytes) (fault : ReadFault) : Type 0 where
  pub kind : PathKind
  pub stands : kind_of_path path ≡ Some kind
  pub text : IsText bytes
  pub fails : FailsAs kind bytes fault

-- the first cause for which the file with these bytes at the path is no item; want of memory is none
abbrev pub Refused : Bytes → Bytes → ReadFault → Type 0
Refused path bytes faults.BadPath = Misplaced path faults.BadPath
Refused path bytes faults.TooLarge = MayStand path × Unread bytes faults.TooLarge
Refused path bytes faults.NotUtf8 = MayStand path × Unread bytes faults.NotUtf8
Refused path bytes (faults.Python fault) = Misread path bytes (faults.Python fault)
Refused path bytes (faults.Models fault) = Misread path bytes (faults.Models fault)
Refused path bytes (faults.Config fault) = Misread path bytes (faults.Config fault)
Refused path bytes faults.Memory = ⊥

-- the items are the same, wherever they are kept
abbrev pub SameItem : Item → Item → Type 0
SameItem (items.Module a) (items.Module b) = arc_value a ≡ arc_value b
SameItem (items.Models a) (items.Models b) = arc_value a ≡ arc_value b
SameItem (items.Config a) (items.Config b) = arc_value a ≡ arc_value b
SameItem _ _ = ⊥
