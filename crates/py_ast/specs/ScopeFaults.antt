-- What is wrong with the names of a module that its grammar lets through (Language Reference, sections 4.2.1 and 6.3.4, cut to the
-- subset): a name that is bound again where that isn't supported, and the call of a variable by its bare name.
use Rattle.std.specs.Prelude.{◌≡◌, Bool, true, false, cond, not, ◌&&◌, ◌||◌, ◌==◌, nat_lt, List, [], ◌∷◌, ◌++◌, map, filter, Option, Some, None}
use Rattle.std.specs.List.{flat_map, list_any, fold}
use Rattle.rv_names.specs.Keys.{Bytes, Parts, parts_equal}
use Rattle.py_literals.specs.declared.place.Pos.{Pos}
use Rattle.py_lexer.specs.declared.form.Form.TheVariants as unsupported
use Rattle.py_ast.specs.Bindings.{is_of, parameter, bindings}
use Rattle.py_ast.specs.Uses.{Uses, used_in_all}
use Rattle.py_ast.specs.declared.binding.Binding.{Binding}
use Rattle.py_ast.specs.declared.binding.BindingKind.{BindingKind}
use Rattle.py_ast.specs.declared.binding.BindingKind.TheVariants as kinds
use Rattle.py_ast.specs.declared.binding.How.{How}
use Rattle.py_ast.specs.declared.binding.How.TheVariants as hows
use Rattle.py_ast.specs.declared.binding.ScopeFault.{ScopeFault}
use Rattle.py_ast.specs.declared.binding.ScopeFault.TheVariants as faults
use Rattle.py_ast.specs.declared.binding.Use.{Use}
use Rattle.py_ast.specs.declared.statement.Class.{Class, out-Class}
use Rattle.py_ast.specs.declared.statement.Function.{Function, out-Function}
use Rattle.py_ast.specs.declared.statement.Module.{Module}
use Rattle.py_ast.specs.declared.statement.Stmt.{Stmt, out-Stmt}
use Rattle.py_ast.specs.declared.statement.Branch.{Branch}
use Rattle.py_ast.specs.declared.statement.StmtForm.{StmtForm, out-StmtForm}
use Rattle.py_ast.specs.declared.statement.StmtForm.TheOpen.{StmtForm-F}

-- ---- order of places

abbrev pub is_before : Pos → Pos → Bool
is_before a b = nat_lt a.line b.line || (a.line == b.line && nat_lt a.col b.col)

-- ---- kinds of bindings

-- an annotation alone binds nothing
abbrev pub binds : BindingKind → Bool
binds kinds.Annotation = false
binds _ = true

abbrev pub is_function : BindingKind → Bool
is_function kinds.Function = true
is_function _ = false

-- what binds a name that isn't bound again
abbrev pub is_fixed : BindingKind → Bool
is_fixed kinds.Parameter = true
is_fixed kinds.Function = true
is_fixed kinds.Class = true
is_fixed (kinds.Import q) = true
is_fixed _ = false

-- assignments of any kind, loops, and annotations alone
abbrev pub is_variable : BindingKind → Bool
is_variable (kinds.Value d) = true
is_variable kinds.Unpacked = true
is_variable kinds.Augmented = true
is_variable kinds.Loop = true
is_variable kinds.Annotation = true
is_variable _ = false

abbrev pub is_import_of : Parts → BindingKind → Bool
is_import_of q (kinds.Import r) = parts_equal q r
is_import_of q _ = false

-- imports of one thing
abbrev pub same_thing : BindingKind → BindingKind → Bool
same_thing (kinds.Import q) kind = is_import_of q kind
same_thing _ kind = false

-- ---- names that are bound again

-- the first binding of a name
abbrev pub first_of : Bytes → List Binding → Option Binding
first_of n [] = None
first_of n (b ∷ bs) = cond (is_of n b && binds b.kind) (Some b) (first_of n bs)

abbrev pub is_fixed_in : List Binding → Bytes → Bool
is_fixed_in bs n = list_any (λ b. is_of n b && is_fixed b.kind) bs

abbrev pub differs : Option Binding → Binding → Bool
differs None b = false
differs (Some first) b = is_before first.at b.at && not (same_thing first.kind b.kind)

-- A binding of a name that one of the bindings fixes, behind the first of the name, and no import of the same thing as that.
abbrev pub binds_again : List Binding → Binding → Bool
binds_again bs b = binds b.kind && is_fixed_in bs b.name && differs (first_of b.name bs) b

abbrev pub twice : Binding → ScopeFault
twice b = faults.Twice b.name b.at

abbrev pub bound_twice : List Binding → List ScopeFault
bound_twice bs = map twice (filter (binds_again bs) bs)

-- ---- calls of variables

abbrev pub is_called : How → Bool
is_called hows.Called = true
is_called _ = false

abbrev pub variable_call : Use → ScopeFault
variable_call u = faults.Unsupported unsupported.VariableCall u.at

-- the calls of names that are variables
abbrev pub variable_calls : (Bytes → Bool) → Uses → List ScopeFault
variable_calls is_named us = map variable_call (filter (λ u. is_called u.how && is_named u.name) us)

-- ---- functions and classes, which stand directly in a module, functions in a class too

abbrev pub OpenStmt : Type 0
OpenStmt = StmtForm-F StmtForm Branch Class Function Stmt

abbrev pub open_stmt : Stmt → OpenStmt
open_stmt s = out-StmtForm (out-Stmt s).form

abbrev pub function_in : OpenStmt → List Function
function_in (StmtForm-F.Function f) = f ∷ []
function_in _ = []

abbrev pub class_in : OpenStmt → List Class
class_in (StmtForm-F.Class c) = c ∷ []
class_in _ = []

abbrev pub functions : List Stmt → List Function
functions ss = flat_map (λ s. function_in (open_stmt s)) ss

abbrev pub classes : List Stmt → List Class
classes ss = flat_map (λ s. class_in (open_stmt s)) ss

abbrev pub parameters : Function → List Binding
parameters f = map parameter (out-Function f).parameters

-- the bindings of a function's own names
abbrev pub locals : Function → List Binding
locals f = parameters f ++ bindings (out-Function f).body

abbrev pub used_in_body : Function → Uses
used_in_body f = used_in_all (out-Function f).body

-- the bindings of a class's own names, of which methods are functions
abbrev pub members : Class → List Binding
members c = bindings (out-Class c).body

abbrev pub is_method : Binding → Bool
is_method b = is_function b.kind

abbrev pub methods : Class → List Binding
methods c = filter is_method (members c)

-- the bindings of a module's own names
abbrev pub globals : Module → List Binding
globals m = bindings m.body

abbrev pub is_local : Function → Bytes → Bool
is_local f n = list_any (is_of n) (locals f)

abbrev pub is_global_variable : Module → Bytes → Bool
is_global_variable m n = list_any (λ b. is_of n b && is_variable b.kind) (globals m)

-- ---- the faults of a module

-- two parameters of one name, and calls of a local or of a variable of the module
abbrev pub function_faults : (Bytes → Bool) → Function → List ScopeFault
function_faults is_global f = bound_twice (parameters f) ++ variable_calls (λ n. is_local f n || is_global n) (used_in_body f)

-- two methods of one name, and what is wrong in each
abbrev pub class_faults : (Bytes → Bool) → Class → List ScopeFault
class_faults is_global c = bound_twice (methods c) ++ flat_map (function_faults is_global) (functions (out-Class c).body)

abbrev pub scope_faults : Module → List ScopeFault
scope_faults m =
    bound_twice (globals m) ++ variable_calls (is_global_variable m) (used_in_all m.body)
    ++ flat_map (function_faults (is_global_variable m)) (functions m.body) ++ flat_map (class_faults (is_global_variable m)) (classes m.body)

abbrev pub place : ScopeFault → Pos
place (faults.Twice n at) = at
place (faults.Unsupported form at) = at

-- the one of lesser place, of two at one place the first
abbrev pub sooner : Option ScopeFault → ScopeFault → Option ScopeFault
sooner None g = Some g
sooner (Some f) g = Some (cond (is_before (place g) (place f)) g f)

-- the one of least place, of several at one place the first
abbrev pub earliest : List ScopeFault → Option ScopeFault
earliest fs = fold sooner None fs

abbrev pub scope_fault : Module → Option ScopeFault
scope_fault m = earliest (scope_faults m)

abbrev pub HasNoScopeFault : Module → Type 0
HasNoScopeFault m = scope_fault m ≡ None
