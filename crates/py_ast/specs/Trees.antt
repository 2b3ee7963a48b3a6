-- The trees that productions give.
use Rattle.std.specs.Prelude.{ℕ, Bool, true, false, cond, not, List, [], ◌∷◌, ◌++◌, Option, Some, None}
use Rattle.py_literals.specs.declared.place.Pos.{Pos}
use Rattle.py_ast.specs.Kinds.{is_init}
use Rattle.py_ast.specs.declared.tree.BinaryOperator.{BinaryOperator}
use Rattle.py_ast.specs.declared.tree.Comparator.{Comparator}
use Rattle.py_ast.specs.declared.tree.UnaryOperator.{UnaryOperator}
use Rattle.py_ast.specs.declared.tree.NameAt.{NameAt}
use Rattle.py_ast.specs.declared.tree.Expr.{Expr, out-Expr, roll-Expr}
use Rattle.py_ast.specs.declared.tree.Form.{Form, out-Form}
use Rattle.py_ast.specs.declared.tree.Form.TheVariants as forms
use Rattle.py_ast.specs.declared.tree.Form.TheOpen.{Form-F, StepForm-F}
use Rattle.py_ast.specs.declared.tree.Form.TheOpen.{Form-F as open_forms, StepForm-F as open_steps}
use Rattle.py_ast.specs.declared.tree.Pair.{Pair, roll-Pair}
use Rattle.py_ast.specs.declared.tree.Joined.{Joined, out-Joined, roll-Joined}
use Rattle.py_ast.specs.declared.tree.Compared.{Compared, out-Compared, roll-Compared}
use Rattle.py_ast.specs.declared.tree.Operand.{Operand, out-Operand, roll-Operand}
use Rattle.py_ast.specs.declared.tree.Step.{Step, out-Step, roll-Step}
use Rattle.py_ast.specs.declared.tree.StepForm.{StepForm, out-StepForm}
use Rattle.py_ast.specs.declared.tree.StepForm.TheVariants as steps
use Rattle.py_ast.specs.declared.tree.Argument.{Argument, out-Argument, roll-Argument}
use Rattle.py_ast.specs.declared.tree.Part.{Part}
use Rattle.py_ast.specs.declared.tree.Part.TheVariants as parts
use Rattle.py_ast.specs.declared.tree.Piece.{Piece}
use Rattle.py_ast.specs.declared.tree.Piece.TheVariants as pieces

-- ---- nodes

-- a node that begins with the token that makes it
abbrev pub leaf : Pos → Form → Expr
leaf at f = roll-Expr (record { node = at; start = at; anchor = at; enclosed = false; form = f })

-- a node that begins with its first operand, and is made by a token behind that
abbrev pub behind : Pos → Expr → Form → Expr
behind at e f = roll-Expr (record { node = at; start = (out-Expr e).start; anchor = (out-Expr e).start; enclosed = false; form = f })

-- an expression in parentheses, of which the first stands at a place
abbrev pub enclose : Pos → Expr → Expr
enclose at e = roll-Expr (record { node = (out-Expr e).node; start = at; anchor = (out-Expr e).anchor; enclosed = true; form = (out-Expr e).form })

-- ---- lists with commas: an item may stand behind each, and does so behind each but the last

abbrev pub given : {A : Type 0} → List (Pos × Option A) → List A
given [] = []
given ((at, None) ∷ is) = given is
given ((at, Some a) ∷ is) = a ∷ given is

-- one item, or several
abbrev pub all_given : {A : Type 0} → A × List (Pos × Option A) → List A
all_given (a, is) = a ∷ given is

-- expressions without parentheses: a tuple where there is a comma
abbrev pub tuple_of : Expr × List (Pos × Option Expr) → Expr
tuple_of (e, []) = e
tuple_of (e, i ∷ is) = behind i.0 e (forms.Tuple (e ∷ given (i ∷ is)))

-- expressions in parentheses, of which the first stands at a place
abbrev pub parenthesized_of : Pos → Option (Expr × List (Pos × Option Expr)) → Expr
parenthesized_of at None = leaf at (forms.Tuple [])
parenthesized_of at (Some (e, [])) = enclose at e
parenthesized_of at (Some (e, i ∷ is)) = leaf at (forms.Tuple (e ∷ given (i ∷ is)))

-- the items between two brackets, where there may be none
abbrev pub optional_items : {A : Type 0} → Option (A × List (Pos × Option A)) → List A
optional_items None = []
optional_items (Some is) = all_given is

abbrev pub pair_of : Expr → Expr → Pair
pair_of k v = roll-Pair (record { key = k; value = v })

-- ---- strings in a row

abbrev pub plain_text : List (Pos × Piece) → Option (List ℕ)
plain_text [] = Some []
plain_text ((at, pieces.Plain s) ∷ ps) = elim (plain_text ps) [ None ↦ None | Some rest ↦ Some (s ++ rest) ]
plain_text ((at, pieces.Formatted fs) ∷ ps) = None

-- the parts of all, in order
abbrev pub parts_of : List (Pos × Piece) → List Part
parts_of [] = []
parts_of ((at, pieces.Plain s) ∷ ps) = parts.Text s ∷ parts_of ps
parts_of ((at, pieces.Formatted fs) ∷ ps) = fs ++ parts_of ps

abbrev pub joined_form : List (Pos × Piece) → Option (List ℕ) → Form
joined_form ps (Some s) = forms.Text s
joined_form ps None = forms.Formatted (parts_of ps)

abbrev pub strings_of : Pos × Piece → List (Pos × Piece) → Expr
strings_of p ps = leaf p.0 (joined_form (p ∷ ps) (plain_text (p ∷ ps)))

-- ---- operators: one operand stands for itself

abbrev pub operand_of : BinaryOperator × Pos → Expr → Operand
operand_of (o, at) e = roll-Operand (record { operator = o; at = at; value = e })

abbrev pub binary_of : Expr → List Operand → Expr
binary_of e [] = e
binary_of e (o ∷ os) = behind (out-Operand o).at e (forms.Binary e (o ∷ os))

abbrev pub compared_of : Comparator × Pos → Expr → Compared
compared_of (c, at) e = roll-Compared (record { comparator = c; at = at; value = e })

abbrev pub comparison_of : Expr → List Compared → Expr
comparison_of e [] = e
comparison_of e (c ∷ cs) = behind (out-Compared c).at e (forms.Comparison e (c ∷ cs))

abbrev pub joined_of : Pos → Expr → Joined
joined_of at e = roll-Joined (record { at = at; value = e })

abbrev pub and_of : Expr → List Joined → Expr
and_of e [] = e
and_of e (j ∷ js) = behind (out-Joined j).at e (forms.And e (j ∷ js))

abbrev pub or_of : Expr → List Joined → Expr
or_of e [] = e
or_of e (j ∷ js) = behind (out-Joined j).at e (forms.Or e (j ∷ js))

abbrev pub not_of : Pos → Expr → Expr
not_of at e = leaf at (forms.Not e)

abbrev pub unary_of : UnaryOperator × Pos → Expr → Expr
unary_of (o, at) e = leaf at (forms.Unary o e)

abbrev pub power_of : Expr → Option (Pos × Expr) → Expr
power_of e None = e
power_of e (Some (at, exponent)) = behind at e (forms.Power e exponent)

-- the `if`, the condition, and the other value
abbrev pub conditional_of : Expr → Option (Pos × Expr × Expr) → Expr
conditional_of e None = e
conditional_of e (Some (at, condition, otherwise)) = behind at e (forms.Conditional e condition otherwise)

-- ---- chains

abbrev pub step_of : Pos → StepForm → Step
step_of at f = roll-Step (record { node = at; form = f })

-- one layer of a step, and of an expression
abbrev pub OpenStep : Type 0
OpenStep = StepForm-F Form Part StepForm Argument Compared Expr Joined Operand Pair Step

abbrev pub OpenForm : Type 0
OpenForm = Form-F Form Part StepForm Argument Compared Expr Joined Operand Pair Step

abbrev pub open_step : Step → OpenStep
open_step s = out-StepForm (out-Step s).form

abbrev pub open_form : Expr → OpenForm
open_form e = out-Form (out-Expr e).form

-- where the anchor is, behind a step: a call's is that of its callee
abbrev pub anchor_in : Pos → Pos → OpenStep → Pos
anchor_in before at (open_steps.Attribute n) = at
anchor_in before at (open_steps.Subscript e) = at
anchor_in before at (open_steps.Call arguments) = before

abbrev pub anchor_after : Pos → List Step → Pos
anchor_after at [] = at
anchor_after at (s ∷ ss) = anchor_after (anchor_in at (out-Step s).node (open_step s)) ss

abbrev pub node_after : Pos → List Step → Pos
node_after at [] = at
node_after at (s ∷ ss) = node_after (out-Step s).node ss

abbrev pub postfix_of : Expr → List Step → Expr
postfix_of e [] = e
postfix_of e (s ∷ ss) = roll-Expr (record {
  node = node_after (out-Step s).node ss;
  start = (out-Expr e).start;
  anchor = anchor_after (out-Expr e).anchor (s ∷ ss);
  enclosed = false;
  form = forms.Postfix e (s ∷ ss);
})

-- ---- what may be called: a name or an attribute, which isn't `__init__`

abbrev pub callable_name : List ℕ → Bool
callable_name n = not (is_init n)

abbrev pub callable_step : OpenStep → Bool
callable_step (open_steps.Attribute n) = callable_name n
callable_step (open_steps.Subscript e) = false
callable_step (open_steps.Call arguments) = false

abbrev pub callable_after : Bool → List Step → Bool
callable_after b [] = b
callable_after b (s ∷ ss) = callable_after (callable_step (open_step s)) ss

abbrev pub callable_form : OpenForm → Bool
callable_form (open_forms.Name n) = callable_name n
callable_form (open_forms.Postfix e ss) = callable_after false ss
callable_form _ = false

abbrev pub is_callee : Expr → Bool
is_callee e = callable_form (open_form e)

-- ---- arguments

abbrev pub name_form : Pos → OpenForm → Option NameAt
name_form at (open_forms.Name n) = Some (record { name = n; at = at })
name_form at _ = None

-- the name that an expression is, where no parentheses stand round it
abbrev pub bare_name : Expr → Option NameAt
bare_name e = cond (out-Expr e).enclosed None (name_form (out-Expr e).start (open_form e))

abbrev pub keyword_argument_of : NameAt → Expr → Argument
keyword_argument_of n e = roll-Argument (record { keyword = Some n; value = e })

-- an expression alone, or a name with a value behind `=`
abbrev pub argument_of : Expr → Option (NameAt × Expr) → Argument
argument_of e None = roll-Argument (record { keyword = None; value = e })
argument_of e (Some (n, v)) = keyword_argument_of n v

abbrev pub has_keyword : Argument → Bool
has_keyword a = elim (out-Argument a).keyword [ None ↦ false | Some n ↦ true ]
