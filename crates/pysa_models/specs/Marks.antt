-- Marks by number: a kind's number is its place in the sources followed by the sinks of the configuration.
use Rattle.std.specs.Prelude.{ℕ, Bool, true, false, List, length, Option, None, option_map, is_some}
use Rattle.std.specs.List.{filter_map}
use Rattle.rv_names.specs.Keys.{Bytes}
use Rattle.path_trees.specs.declared.marks.Mark.{Mark}
use Rattle.path_trees.specs.declared.marks.Mark.TheVariants as marks
use Rattle.pysa_syntax.specs.declared.decl.DeclMark.{DeclMark}
use Rattle.pysa_syntax.specs.declared.decl.DeclMark.TheVariants as written
use Rattle.taint_config.specs.Config.{ConfigParts}
use Rattle.taint_config.specs.Kinds.{number_from}

-- the number of a source, and that of a sink: a name that is declared only as the one is unknown as the other
abbrev pub source_number : ConfigParts → Bytes → Option ℕ
source_number c kind = number_from 0 c.sources kind

abbrev pub sink_number : ConfigParts → Bytes → Option ℕ
sink_number c kind = number_from (length c.sources) c.sinks kind

-- the number of a mark's kind; `TaintInTaintOut` has no kind
abbrev pub kind_number : ConfigParts → DeclMark → Option ℕ
kind_number c (written.Source kind at) = source_number c kind
kind_number c (written.Sink kind at) = sink_number c kind
kind_number c written.Through = None

-- a mark of a known kind
abbrev pub is_known : ConfigParts → DeclMark → Bool
is_known c m = is_some (kind_number c m)

-- a mark by number, where its kind is known
abbrev pub mark_of : ConfigParts → ℕ → DeclMark → Option Mark
mark_of c leaf (written.Source kind at) = option_map (λ k. marks.Source k leaf) (source_number c kind)
mark_of c leaf (written.Sink kind at) = option_map (λ k. marks.Sink k leaf) (sink_number c kind)
mark_of c leaf written.Through = None

-- the marks of known kinds, in their order
abbrev pub marks_of : ConfigParts → ℕ → List DeclMark → List Mark
marks_of c leaf = filter_map (mark_of c leaf)

-- `TaintInTaintOut`
abbrev pub is_through : DeclMark → Bool
is_through written.Through = true
is_through (written.Source kind at) = false
is_through (written.Sink kind at) = false
