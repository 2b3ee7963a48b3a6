-- Which live files have the cut form, and what is reported of them.
use Rattle.std.specs.Prelude.{◌==◌, Bool, true, false, not, ◌&&◌, ◌||◌, if◌then◌else◌, List, [], ◌++◌, length, Option, Some, None, is_some, codes}
use Rattle.std.specs.List.{flat_map, list_all}
use Rattle.std.specs.Arc.{arc_value}
use Rattle.std.specs.Fmt.{decimal}
use Rattle.std.specs.FinMap.{entries, get}
use Rattle.rv_names.specs.Keys.{Bytes, bytes_equal}
use Rattle.py_literals.specs.declared.place.Pos.{Pos}
use Rattle.project.specs.declared.item.Item.{Item}
use Rattle.project.specs.declared.item.Item.TheVariants as items
use Rattle.project.specs.Files.{FileMap}
use Rattle.project.specs.Items.{FileParts}
use Rattle.cut_form.specs.declared.bodies.Body.{Body}
use Rattle.cut_form.specs.declared.lines.Report.{Report}
use Rattle.cut_form.specs.Answers.{◌>>=◌}
use Rattle.cut_form.specs.Configuration.{is_config}
use Rattle.cut_form.specs.Declarations.{are_models}
use Rattle.cut_form.specs.Bodies.{app_of}

-- ---- the three files, of which each may be missing

abbrev pub config_path : Bytes
config_path = codes "taint.config"

abbrev pub models_path : Bytes
models_path = codes "general.pysa"

abbrev pub app_path : Bytes
app_path = codes "app.py"

abbrev pub is_known : Bytes → Bool
is_known path = bytes_equal path config_path || bytes_equal path models_path || bytes_equal path app_path

abbrev pub are_known : FileMap → Bool
are_known files = list_all (λ (e : Bytes × FileParts). is_known e.0) (entries files)

abbrev pub is_config_item : Item → Bool
is_config_item (items.Config c) = is_config (arc_value c)
is_config_item _ = false

abbrev pub is_models_item : Item → Bool
is_models_item (items.Models decls) = are_models (arc_value decls)
is_models_item _ = false

-- where a file is live its item has the property
abbrev pub fits : (Item → Bool) → Option FileParts → Bool
fits property None = true
fits property (Some file) = property file.item

abbrev pub body_in : Item → Option Body
body_in (items.Module parsed) = app_of (arc_value parsed).tree
body_in _ = None

-- where `app.py` is missing there is no issue
abbrev pub body_at : Option FileParts → Option Body
body_at None = Some (record { function = []; places = [] })
body_at (Some file) = body_in file.item

-- nothing else is live, and each of the three that is live has its form
abbrev pub others_fit : FileMap → Bool
others_fit files = are_known files && fits is_config_item (get files config_path) && fits is_models_item (get files models_path)

unfoldable pub form_of : FileMap → Option Body
form_of files = if others_fit files then body_at (get files app_path) else None

-- ---- the report

abbrev pub issue_line : Bytes → Pos → Bytes
issue_line function at = codes "app.py:" ++ decimal at.line ++ codes ":" ++ decimal at.col ++ codes " 5001 app." ++ function
    ++ codes " UserControlled:input RemoteCodeExecution:os.system Data from UserControlled may reach RemoteCodeExecution\n"

-- the number of issues, and a line for each
abbrev pub lines_of : Bytes → List Pos → Bytes
lines_of function places = codes "issues " ++ decimal (length places) ++ codes "\n" ++ flat_map (issue_line function) places

-- a report without where it lies in memory
pub record ReportParts : Type 0 where
  pub lines : Bytes
  pub has_issues : Bool

abbrev pub report_value : Report → ReportParts
report_value r = record { lines = r.lines.items; has_issues = r.has_issues }

abbrev pub report_parts : Bytes → List Pos → ReportParts
report_parts function places = record { lines = lines_of function places; has_issues = not (length places == 0) }

-- without the rule or the models there is no issue
abbrev pub has_rules : FileMap → Bool
has_rules files = is_some (get files config_path) && is_some (get files models_path)

abbrev pub places_of : FileMap → Body → List Pos
places_of files body = if has_rules files then body.places else []

-- what is reported of the live files, where they have the cut form
unfoldable pub report_of : FileMap → Option ReportParts
report_of files = form_of files >>= λ body. Some (report_parts body.function (places_of files body))
