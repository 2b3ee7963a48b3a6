-- How many callables a module has: its top level, each function, and each method of a class.
use Rattle.std.specs.Prelude.{ℕ, ◌+◌, min, Bool, true, false, List}
use Rattle.std.specs.List.{count_by, sum_by}
use Rattle.std.specs.Arc.{arc_value}
use Rattle.py_ast.specs.declared.statement.Branch.{Branch}
use Rattle.py_ast.specs.declared.statement.Class.{Class, out-Class}
use Rattle.py_ast.specs.declared.statement.Function.{Function}
use Rattle.py_ast.specs.declared.statement.Module.{Module}
use Rattle.py_ast.specs.declared.statement.Stmt.{Stmt, out-Stmt}
use Rattle.py_ast.specs.declared.statement.StmtForm.{StmtForm, out-StmtForm}
use Rattle.py_ast.specs.declared.statement.StmtForm.TheOpen.{StmtForm-F}
use Rattle.py_ast.specs.declared.statement.StmtForm.TheOpen.{StmtForm-F as open_forms}
use Rattle.project.specs.declared.item.Item.{Item}
use Rattle.project.specs.declared.item.Item.TheVariants as items

-- one layer of a statement
abbrev pub OpenStmt : Type 0
OpenStmt = StmtForm-F StmtForm Branch Class Function Stmt

abbrev pub open_stmt : Stmt → OpenStmt
open_stmt s = out-StmtForm (out-Stmt s).form

abbrev pub is_function : OpenStmt → Bool
is_function (open_forms.Function f) = true
is_function _ = false

abbrev pub functions : List Stmt → ℕ
functions = count_by (λ s. is_function (open_stmt s))

-- what a statement of a module defines: a function is one callable, and a class has its methods
abbrev pub defined : OpenStmt → ℕ
defined (open_forms.Function f) = 1
defined (open_forms.Class c) = functions (out-Class c).body
defined _ = 0

abbrev pub callables : Module → ℕ
callables m = 1 + sum_by (λ s. defined (open_stmt s)) m.body

abbrev pub item_callables : Item → ℕ
item_callables (items.Module parsed) = callables (arc_value parsed).tree
item_callables (items.Models decls) = 0
item_callables (items.Config config) = 0

-- a count as 32 bits hold it, which stands still at their end
abbrev pub capped : ℕ → ℕ
capped n = min n 4294967295
