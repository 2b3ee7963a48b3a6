-- The one shape of `app.py`: `import os`, and a function whose body is nests of calls (Language Reference, 7.11 and 8.7).
use Rattle.std.specs.Prelude.{◌-◌, Bool, true, false, not, ◌&&◌, nat_eq, if◌then◌else◌, List, [], ◌∷◌, get_or, length, Option, Some, None, codes}
use Rattle.std.specs.List.{list_all, starts_with}
use Rattle.rv_names.specs.Keys.{Bytes, Parts, bytes_equal}
use Rattle.py_ast.specs.declared.tree.Expr.{Expr}
use Rattle.py_ast.specs.declared.statement.Dotted.{Dotted}
use Rattle.py_ast.specs.declared.statement.Function.{Function, out-Function}
use Rattle.py_ast.specs.declared.statement.Module.{Module}
use Rattle.py_ast.specs.declared.statement.Stmt.{Stmt}
use Rattle.py_ast.specs.declared.statement.StmtForm.TheOpen.{StmtForm-F as open_forms}
use Rattle.project.specs.Callables.{OpenStmt, open_stmt}
use Rattle.cut_form.specs.declared.bodies.Body.{Body}
use Rattle.cut_form.specs.declared.nests.Call.{Call}
use Rattle.cut_form.specs.Answers.{◌>>=◌}
use Rattle.cut_form.specs.Configuration.{is_empty}
use Rattle.cut_form.specs.Nests.{Calls, nest_of}
use Rattle.cut_form.specs.Issues.{issues_of}

-- ---- names

-- a name that doesn't begin with two underscores
abbrev pub is_open : Bytes → Bool
is_open name = not (starts_with nat_eq name (codes "__"))

abbrev pub is_function_name : Bytes → Bool
is_function_name name = is_open name && not (bytes_equal name (codes "os"))

abbrev pub first_name : Parts → Bytes
first_name names = get_or names 0 []

abbrev pub last_name : Parts → Bytes
last_name names = get_or names (length names - 1) []

-- what may be called in a function: neither that function nor a part of it, and no `append`
abbrev pub may_call : Bytes → Call → Bool
may_call function call = list_all is_open call.names && not (bytes_equal (first_name call.names) function) && not (bytes_equal (last_name call.names) (codes "append"))

-- ---- statements

abbrev pub is_absent : {A : Type 0} → Option A → Bool
is_absent None = true
is_absent (Some x) = false

abbrev pub is_os : Dotted → Bool
is_os d = bytes_equal d.first.name (codes "os") && is_empty d.others

abbrev pub imports_os : OpenStmt → Bool
imports_os (open_forms.Import (m ∷ [])) = is_os m.name && is_absent m.alias
imports_os _ = false

-- a nest whose calls the function may make
abbrev pub own_nest : Bytes → Expr → Option Calls
own_nest function e = nest_of e >>= λ calls. if list_all (may_call function) calls then Some calls else None

abbrev pub line_nest : Bytes → OpenStmt → Option Calls
line_nest function (open_forms.Expression e) = own_nest function e
line_nest function _ = None

-- one nest a statement
abbrev pub line_nests : Bytes → List Stmt → Option (List Calls)
line_nests function [] = Some []
line_nests function (s ∷ ss) = do
  nest ← line_nest function (open_stmt s)
  nests ← line_nests function ss
  Some (nest ∷ nests)

-- ---- functions and files

abbrev pub is_bare : Function → Bool
is_bare f = is_empty (out-Function f).decorators && is_empty (out-Function f).parameters && is_absent (out-Function f).returns && not (is_empty (out-Function f).body)

-- its name, and the places of the issues of its statements
abbrev pub body_of : Function → Option Body
body_of f = if is_bare f && is_function_name (out-Function f).name.name
    then (line_nests (out-Function f).name.name (out-Function f).body >>= λ nests. Some (record { function = (out-Function f).name.name; places = issues_of nests }))
    else None

abbrev pub defined_body : OpenStmt → Option Body
defined_body (open_forms.Function f) = body_of f
defined_body _ = None

abbrev pub app_in : List Stmt → Option Body
app_in (first ∷ second ∷ []) = if imports_os (open_stmt first) then defined_body (open_stmt second) else None
app_in _ = None

unfoldable pub app_of : Module → Option Body
app_of m = app_in m.body
