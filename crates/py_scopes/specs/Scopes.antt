-- The scopes of a module: its own names, and those of each function and class.
use Rattle.std.specs.Prelude.{◌≡◌, Bool, true, false, map, Some}
use Rattle.py_ast.specs.Owned.{owned}
use Rattle.py_ast.specs.ScopeFaults.{parameters, locals, members, globals, functions, classes, scope_fault}
use Rattle.py_ast.specs.declared.binding.ScopeFault.TheVariants as faults
use Rattle.py_ast.specs.declared.statement.Class.{Class, out-Class}
use Rattle.py_ast.specs.declared.statement.Function.{Function, out-Function}
use Rattle.py_ast.specs.declared.statement.Module.{Module}
use Rattle.py_scopes.specs.declared.error.ScopeError.{ScopeError}
use Rattle.py_scopes.specs.declared.error.ScopeError.TheVariants as errors
use Rattle.py_scopes.specs.declared.layers.ClassScope.{ClassScope}
use Rattle.py_scopes.specs.declared.layers.FunctionScope.{FunctionScope}
use Rattle.py_scopes.specs.declared.layers.Scopes.{Scopes}

-- of a function, which is a method or not
abbrev pub function_scope : Bool → Function → FunctionScope
function_scope method f = record {
  name = (out-Function f).name.name;
  at = (out-Function f).name.at;
  parameters = parameters f;
  locals = locals f;
  owned = owned method f;
}

abbrev pub class_scope : Class → ClassScope
class_scope c = record {
  name = (out-Class c).name.name;
  at = (out-Class c).name.at;
  members = members c;
  methods = map (function_scope true) (functions (out-Class c).body);
}

-- of a module, with its functions and classes in order of place
abbrev pub scopes_of : Module → Scopes
scopes_of m = record {
  globals = globals m;
  functions = map (function_scope false) (functions m.body);
  classes = map class_scope (classes m.body);
}

-- the answer is for the module's fault, but where memory ended
abbrev pub IsFaultOf : Module → ScopeError → Type 0
IsFaultOf m (errors.Twice n at) = scope_fault m ≡ Some (faults.Twice n at)
IsFaultOf m (errors.Unsupported form at) = scope_fault m ≡ Some (faults.Unsupported form at)
IsFaultOf m errors.Memory = Unit {0}
