-- The names that expressions and statements use, each with its place and with how it is used (Language Reference, chapters 6 to 8).
-- Parentheses make no difference. A name that is bound is no use, nor is a name of a decorator or of a class's base.
use Rattle.std.specs.Prelude.{Bool, true, false, cond, not, ◌&&◌, List, [], ◌∷◌, ◌++◌, map, Option, Some, None}
use Rattle.std.specs.List.{flat_map}
use Rattle.rv_names.specs.Keys.{Bytes, bytes_equal}
use Rattle.py_literals.specs.declared.place.Pos.{Pos}
use Rattle.py_ast.specs.Trees.{OpenForm, OpenStep, open_form, open_step, has_keyword}
use Rattle.py_ast.specs.declared.binding.How.{How}
use Rattle.py_ast.specs.declared.binding.How.TheVariants as hows
use Rattle.py_ast.specs.declared.binding.Use.{Use}
use Rattle.py_ast.specs.declared.tree.Expr.{Expr, fold-Expr}
use Rattle.py_ast.specs.declared.tree.Form.TheOpen.{Form-F, Part-F, StepForm-F, Argument-F, Compared-F, Expr-F, Joined-F, Operand-F, Pair-F, Step-F}
use Rattle.py_ast.specs.declared.tree.Part.{Part, fold-Part}
use Rattle.py_ast.specs.declared.tree.Argument.{Argument, fold-Argument}
use Rattle.py_ast.specs.declared.tree.Compared.{Compared, fold-Compared}
use Rattle.py_ast.specs.declared.tree.Joined.{Joined, fold-Joined}
use Rattle.py_ast.specs.declared.tree.Operand.{Operand, fold-Operand}
use Rattle.py_ast.specs.declared.tree.Pair.{Pair, fold-Pair}
use Rattle.py_ast.specs.declared.tree.Step.{Step, fold-Step}
use Rattle.py_ast.specs.declared.statement.Parameter.{Parameter}
use Rattle.py_ast.specs.declared.statement.Branch.{Branch, fold-Branch}
use Rattle.py_ast.specs.declared.statement.Stmt.{Stmt, fold-Stmt}
use Rattle.py_ast.specs.declared.statement.StmtForm.TheOpen.{StmtForm-F, Branch-F, Class-F, Function-F, Stmt-F}

abbrev pub Uses : Type 0
Uses = List Use

abbrev pub together : List Uses → Uses
together us = flat_map (λ u. u) us

abbrev pub used : Bytes → Pos → How → Use
used n at how = record { name = n; at = at; how = how }

-- ---- expressions, by how the whole is used, which tells of a name how that is used

abbrev pub InContext : Type 0
InContext = How → Uses

abbrev pub Numbered : Type 0
Numbered = Pos → InContext

abbrev pub as_other : InContext → Uses
as_other u = u hows.Other

abbrev pub if_any : Option InContext → Uses
if_any None = []
if_any (Some u) = as_other u

-- of a step of a chain: whether it is a call, and what is used in it
abbrev pub InStep : Type 0
InStep = Bool × Uses

-- how a chain uses what it begins with, by which of its steps are calls
abbrev pub base_how : List Bool → How
base_how [] = hows.Other
base_how (true ∷ calls) = hows.Called
base_how (false ∷ []) = hows.Read
base_how (false ∷ false ∷ calls) = hows.Read
base_how (false ∷ true ∷ calls) = hows.Receiver

-- and of a chain that is called itself, which its parentheses hide
abbrev pub chained_how : How → List Bool → How
chained_how hows.Called calls = base_how (calls ++ true ∷ [])
chained_how how calls = base_how calls

abbrev pub calls_in : List InStep → List Bool
calls_in ss = map (λ s. s.0) ss

abbrev pub used_in_steps : List InStep → Uses
used_in_steps ss = flat_map (λ s. s.1) ss

abbrev pub used_by_form : Form-F Numbered Uses InStep Uses Uses InContext Uses Uses Uses InStep → Numbered
used_by_form (Form-F.Name n) = λ at how. used n at how ∷ []
used_by_form (Form-F.Number n) = λ at how. []
used_by_form (Form-F.Form::Text s) = λ at how. []
used_by_form (Form-F.Formatted parts) = λ at how. together parts
used_by_form (Form-F.Constant c) = λ at how. []
used_by_form (Form-F.Tuple es) = λ at how. flat_map as_other es
used_by_form (Form-F.List es) = λ at how. flat_map as_other es
used_by_form (Form-F.Dictionary pairs) = λ at how. together pairs
used_by_form (Form-F.Conditional e condition otherwise) = λ at how. as_other e ++ as_other condition ++ as_other otherwise
used_by_form (Form-F.Or e others) = λ at how. as_other e ++ together others
used_by_form (Form-F.And e others) = λ at how. as_other e ++ together others
used_by_form (Form-F.Not e) = λ at how. as_other e
used_by_form (Form-F.Comparison e others) = λ at how. as_other e ++ together others
used_by_form (Form-F.Binary e others) = λ at how. as_other e ++ together others
used_by_form (Form-F.Unary operator e) = λ at how. as_other e
used_by_form (Form-F.Power e exponent) = λ at how. as_other e ++ as_other exponent
used_by_form (Form-F.Postfix e steps) = λ at how. e (chained_how how (calls_in steps)) ++ used_in_steps steps

abbrev pub used_by_part : Part-F Numbered Uses InStep Uses Uses InContext Uses Uses Uses InStep → Uses
used_by_part (Part-F.Part::Text s) = []
used_by_part (Part-F.Field e) = as_other e

abbrev pub used_by_step_form : StepForm-F Numbered Uses InStep Uses Uses InContext Uses Uses Uses InStep → InStep
used_by_step_form (StepForm-F.Attribute n) = (false, [])
used_by_step_form (StepForm-F.Subscript e) = (false, as_other e)
used_by_step_form (StepForm-F.Call arguments) = (true, together arguments)

abbrev pub used_by_argument : Argument-F Numbered Uses InStep Uses Uses InContext Uses Uses Uses InStep → Uses
used_by_argument a = as_other a.value

abbrev pub used_by_compared : Compared-F Numbered Uses InStep Uses Uses InContext Uses Uses Uses InStep → Uses
used_by_compared c = as_other c.value

abbrev pub used_by_expr : Expr-F Numbered Uses InStep Uses Uses InContext Uses Uses Uses InStep → InContext
used_by_expr e = e.form e.node

abbrev pub used_by_joined : Joined-F Numbered Uses InStep Uses Uses InContext Uses Uses Uses InStep → Uses
used_by_joined j = as_other j.value

abbrev pub used_by_operand : Operand-F Numbered Uses InStep Uses Uses InContext Uses Uses Uses InStep → Uses
used_by_operand o = as_other o.value

abbrev pub used_by_pair : Pair-F Numbered Uses InStep Uses Uses InContext Uses Uses Uses InStep → Uses
used_by_pair p = as_other p.key ++ as_other p.value

abbrev pub used_by_step : Step-F Numbered Uses InStep Uses Uses InContext Uses Uses Uses InStep → InStep
used_by_step s = s.form

-- what an expression uses, where it is used so itself
abbrev pub used_in : Expr → InContext
used_in = fold-Expr Numbered Uses InStep Uses Uses InContext Uses Uses Uses InStep used_by_form used_by_part used_by_step_form used_by_argument used_by_compared used_by_expr used_by_joined used_by_operand used_by_pair used_by_step

abbrev pub used_in_part : Part → Uses
used_in_part = fold-Part Numbered Uses InStep Uses Uses InContext Uses Uses Uses InStep used_by_form used_by_part used_by_step_form used_by_argument used_by_compared used_by_expr used_by_joined used_by_operand used_by_pair used_by_step

abbrev pub used_in_argument : Argument → Uses
used_in_argument = fold-Argument Numbered Uses InStep Uses Uses InContext Uses Uses Uses InStep used_by_form used_by_part used_by_step_form used_by_argument used_by_compared used_by_expr used_by_joined used_by_operand used_by_pair used_by_step

abbrev pub used_in_compared : Compared → Uses
used_in_compared = fold-Compared Numbered Uses InStep Uses Uses InContext Uses Uses Uses InStep used_by_form used_by_part used_by_step_form used_by_argument used_by_compared used_by_expr used_by_joined used_by_operand used_by_pair used_by_step

abbrev pub used_in_joined : Joined → Uses
used_in_joined = fold-Joined Numbered Uses InStep Uses Uses InContext Uses Uses Uses InStep used_by_form used_by_part used_by_step_form used_by_argument used_by_compared used_by_expr used_by_joined used_by_operand used_by_pair used_by_step

abbrev pub used_in_operand : Operand → Uses
used_in_operand = fold-Operand Numbered Uses InStep Uses Uses InContext Uses Uses Uses InStep used_by_form used_by_part used_by_step_form used_by_argument used_by_compared used_by_expr used_by_joined used_by_operand used_by_pair used_by_step

abbrev pub used_in_pair : Pair → Uses
used_in_pair = fold-Pair Numbered Uses InStep Uses Uses InContext Uses Uses Uses InStep used_by_form used_by_part used_by_step_form used_by_argument used_by_compared used_by_expr used_by_joined used_by_operand used_by_pair used_by_step

abbrev pub used_in_step : Step → InStep
used_in_step = fold-Step Numbered Uses InStep Uses Uses InContext Uses Uses Uses InStep used_by_form used_by_part used_by_step_form used_by_argument used_by_compared used_by_expr used_by_joined used_by_operand used_by_pair used_by_step

abbrev pub used_as_other : Expr → Uses
used_as_other e = used_in e hows.Other

abbrev pub used_if_any : Option Expr → Uses
used_if_any None = []
used_if_any (Some e) = used_as_other e

-- ---- targets (7.2): what stands before the last step is the base of the write, and is read itself where that is a chain

abbrev pub target_how : List Bool → How
target_how (call ∷ []) = hows.Written
target_how calls = base_how calls

-- a chain that uses so what it begins with
abbrev pub used_in_chain : How → Expr → List Step → Uses
used_in_chain how e steps = used_in e how ++ used_in_steps (map used_in_step steps)

abbrev pub used_in_target_form : OpenForm → Uses
used_in_target_form (Form-F.Postfix e steps) = used_in_chain (target_how (calls_in (map used_in_step steps))) e steps
used_in_target_form _ = []

abbrev pub used_in_target : Expr → Uses
used_in_target e = used_in_target_form (open_form e)

-- several names unpack the value
abbrev pub value_how_form : OpenForm → How
value_how_form (Form-F.Tuple es) = hows.Iterated
value_how_form _ = hows.Other

abbrev pub value_how : Expr → How
value_how target = value_how_form (open_form target)

-- ---- `d.append(e)` as a statement, with one positional argument

abbrev pub is_append_name : Bytes → Bool
is_append_name n = bytes_equal n (97 ∷ 112 ∷ 112 ∷ 101 ∷ 110 ∷ 100 ∷ [])

abbrev pub is_append_attribute : OpenStep → Bool
is_append_attribute (StepForm-F.Attribute n) = is_append_name n
is_append_attribute _ = false

abbrev pub takes_one : OpenStep → Bool
takes_one (StepForm-F.Call (a ∷ [])) = not (has_keyword a)
takes_one _ = false

abbrev pub is_append : List Step → Bool
is_append (s ∷ t ∷ []) = is_append_attribute (open_step s) && takes_one (open_step t)
is_append _ = false

abbrev pub statement_how : List Step → How
statement_how steps = cond (is_append steps) hows.Appended (base_how (calls_in (map used_in_step steps)))

abbrev pub used_in_statement_form : Expr → OpenForm → Uses
used_in_statement_form whole (Form-F.Postfix e steps) = used_in_chain (statement_how steps) e steps
used_in_statement_form whole _ = used_as_other whole

abbrev pub used_in_statement : Expr → Uses
used_in_statement e = used_in_statement_form e (open_form e)

-- ---- statements. Of a function only what stands in the scope round it: annotations and defaults of its parameters, and its result's
-- annotation. A class has no scope of its own.

abbrev pub used_in_parameter : Parameter → Uses
used_in_parameter p = used_if_any p.annotation ++ used_if_any p.default

abbrev pub used_if_returned : Option Expr → Uses
used_if_returned None = []
used_if_returned (Some e) = used_in e hows.Returned

abbrev pub used_by_stmt_form : StmtForm-F Uses Uses Uses Uses Uses → Uses
used_by_stmt_form (StmtForm-F.Expression e) = used_in_statement e
used_by_stmt_form (StmtForm-F.Assign target value) = used_in_target target ++ used_in value (value_how target)
used_by_stmt_form (StmtForm-F.Annotate target annotation value) = used_in_target target ++ used_as_other annotation ++ used_if_any value
used_by_stmt_form (StmtForm-F.Augment target operator value) = used_in_target target ++ used_as_other value
used_by_stmt_form (StmtForm-F.Assert condition message) = used_as_other condition ++ used_if_any message
used_by_stmt_form StmtForm-F.Pass = []
used_by_stmt_form (StmtForm-F.Return value) = used_if_returned value
used_by_stmt_form StmtForm-F.Break = []
used_by_stmt_form StmtForm-F.Continue = []
used_by_stmt_form (StmtForm-F.Import modules) = []
used_by_stmt_form (StmtForm-F.ImportFrom m names) = []
used_by_stmt_form (StmtForm-F.If branch branches otherwise) = branch ++ together branches ++ together otherwise
used_by_stmt_form (StmtForm-F.While condition body) = used_as_other condition ++ together body
used_by_stmt_form (StmtForm-F.For names items body) = used_in items hows.Iterated ++ together body
used_by_stmt_form (StmtForm-F.Function f) = f
used_by_stmt_form (StmtForm-F.Class c) = c

abbrev pub used_by_branch : Branch-F Uses Uses Uses Uses Uses → Uses
used_by_branch b = used_as_other b.condition ++ together b.body

abbrev pub used_by_class : Class-F Uses Uses Uses Uses Uses → Uses
used_by_class c = together c.body

abbrev pub used_by_function : Function-F Uses Uses Uses Uses Uses → Uses
used_by_function f = flat_map used_in_parameter f.parameters ++ used_if_any f.returns

abbrev pub used_by_stmt : Stmt-F Uses Uses Uses Uses Uses → Uses
used_by_stmt s = s.form

-- what a statement uses, in the blocks in it too
abbrev pub used_in_stmt : Stmt → Uses
used_in_stmt = fold-Stmt Uses Uses Uses Uses Uses used_by_stmt_form used_by_branch used_by_class used_by_function used_by_stmt

abbrev pub used_in_branch : Branch → Uses
used_in_branch = fold-Branch Uses Uses Uses Uses Uses used_by_stmt_form used_by_branch used_by_class used_by_function used_by_stmt

abbrev pub used_in_all : List Stmt → Uses
used_in_all ss = together (map used_in_stmt ss)
