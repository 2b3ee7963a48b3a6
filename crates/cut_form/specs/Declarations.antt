-- The two models of the cut form: `input` gives the source, and the parameter of `os.system` is the sink.
use Rattle.std.specs.Prelude.{Bool, true, false, not, ◌&&◌, List, [], ◌∷◌, Option, Some, None, codes}
use Rattle.rv_names.specs.Keys.{Bytes, Parts, bytes_equal}
use Rattle.pysa_syntax.specs.declared.decl.Decl.{Decl}
use Rattle.pysa_syntax.specs.declared.decl.DeclParam.{DeclParam}
use Rattle.pysa_syntax.specs.declared.decl.DeclMark.{DeclMark}
use Rattle.pysa_syntax.specs.declared.decl.DeclMark.TheVariants.{Source, Sink}
use Rattle.pysa_syntax.specs.declared.decl.ParamKind.{ParamKind}
use Rattle.pysa_syntax.specs.declared.decl.ParamKind.TheVariants.{Plain}
use Rattle.cut_form.specs.Configuration.{source_kind, sink_kind, is_empty, is_only}

-- the one name, and the two names, of the callables
abbrev pub is_input : Parts → Bool
is_input names = is_only (codes "input") names

abbrev pub is_os_system : Parts → Bool
is_os_system (first ∷ second ∷ []) = bytes_equal first (codes "os") && bytes_equal second (codes "system")
is_os_system _ = false

-- the one mark is the source, or the sink
abbrev pub is_source : List DeclMark → Bool
is_source (Source kind at ∷ []) = bytes_equal kind source_kind
is_source _ = false

abbrev pub is_sink : List DeclMark → Bool
is_sink (Sink kind at ∷ []) = bytes_equal kind sink_kind
is_sink _ = false

abbrev pub is_plain : ParamKind → Bool
is_plain Plain = true
is_plain _ = false

abbrev pub is_named : Bytes → Option Bytes → Bool
is_named text (Some name) = bytes_equal name text
is_named text None = false

abbrev pub is_command : List DeclParam → Bool
is_command (p ∷ []) = is_plain p.kind && is_named (codes "command") p.name && is_sink p.marks
is_command _ = false

-- a model with `def`, and without `@SkipObscure`
abbrev pub is_callable : Decl → Bool
is_callable d = d.callable && not d.skip

abbrev pub declares_source : Decl → Bool
declares_source d = is_callable d && is_input d.name && is_empty d.params && is_source d.marks

abbrev pub declares_sink : Decl → Bool
declares_sink d = is_callable d && is_os_system d.name && is_command d.params && is_empty d.marks

unfoldable pub are_models : List Decl → Bool
are_models (first ∷ second ∷ []) = declares_source first && declares_sink second
are_models _ = false
