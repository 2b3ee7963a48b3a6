-- The notes on models: the kinds that the configuration doesn't declare.
use Rattle.std.specs.Prelude.{List, Option, Some, None, if◌then◌else◌, is_some}
use Rattle.std.specs.List.{filter_map, flat_map}
use Rattle.std.specs.List.Sorted.{IsSorted, IsPermutation}
use Rattle.std.specs.Ordering.{nat_cmp, ordering_then}
use Rattle.std.specs.declared.cmp.Ordering.{Ordering}
use Rattle.rv_names.specs.Keys.{Bytes, bytes_order}
use Rattle.py_literals.specs.declared.place.Pos.{Pos}
use Rattle.py_ast.specs.declared.remark.Remark.{Remark}
use Rattle.py_ast.specs.declared.remark.RemarkKind.TheVariants.{UnknownKind}
use Rattle.py_ast.specs.Remarks.{remark_name}
use Rattle.pysa_syntax.specs.declared.decl.DeclMark.{DeclMark}
use Rattle.pysa_syntax.specs.declared.decl.DeclMark.TheVariants as written
use Rattle.taint_config.specs.Config.{ConfigParts}
use Rattle.pysa_models.specs.Marks.{source_number, sink_number}
use Rattle.pysa_models.specs.Models.{ModelAt, marks_in}

-- the note on a kind, at the place of its name
abbrev pub note_at : Bytes → Bytes → Pos → Remark
note_at path kind at = record { path = path; at = at; kind = UnknownKind; text = kind }

-- the note on a mark of an unknown kind
abbrev pub note_of : ConfigParts → Bytes → DeclMark → Option Remark
note_of c path (written.Source kind at) = if is_some (source_number c kind) then None else Some (note_at path kind at)
note_of c path (written.Sink kind at) = if is_some (sink_number c kind) then None else Some (note_at path kind at)
note_of c path written.Through = None

-- those of a file's marks, and those of all models
abbrev pub notes_in : ConfigParts → Bytes → List DeclMark → List Remark
notes_in c path = filter_map (note_of c path)

abbrev pub all_notes : ConfigParts → List ModelAt → List Remark
all_notes c = flat_map (λ m. notes_in c m.path (marks_in m.decl))

-- notes are ordered by path, line, column, kind and text, where path, kind and text go by bytes
abbrev pub note_order : Remark → Remark → Ordering
note_order a b =
    ordering_then (bytes_order a.path b.path)
    (ordering_then (nat_cmp a.at.line b.at.line)
    (ordering_then (nat_cmp a.at.col b.at.col)
    (ordering_then (bytes_order (remark_name a.kind) (remark_name b.kind))
    (bytes_order a.text b.text))))

-- The notes on the models are one for each mark of an unknown kind, in order. Equal ones may stand more than once.
pub record AreNotes (c : ConfigParts) (models : List ModelAt) (notes : List Remark) : Type 0 where
  pub sorted : IsSorted note_order notes
  pub each : IsPermutation (all_notes c models) notes
