-- Nests of calls: a number, a text, or a call of a dotted name with one such argument or none (Language Reference, 6.3.4).
-- Parentheses round a part make no difference.
use Rattle.std.specs.Prelude.{ℤ, pos, negsuc, nat_le, ◌-◌, Bool, false, if◌then◌else◌, List, [], ◌∷◌, length, take, slice_get, Option, Some, None}
use Rattle.rv_names.specs.Keys.{Bytes, Parts}
use Rattle.py_literals.specs.declared.place.Pos.{Pos}
use Rattle.py_ast.specs.declared.tree.Expr.{Expr, fold-Expr}
use Rattle.py_ast.specs.declared.tree.Form.TheOpen.{Form-F, StepForm-F, Argument-F, Expr-F, Step-F}
use Rattle.py_ast.specs.declared.tree.Argument.{Argument, fold-Argument}
use Rattle.py_ast.specs.declared.tree.Step.{Step, fold-Step}
use Rattle.cut_form.specs.declared.nests.Call.{Call}
use Rattle.cut_form.specs.Answers.{◌>>=◌}

-- the calls of a nest, from the outside in: of each the names of its callee, and the place of the last of them
abbrev pub Calls : Type 0
Calls = List Call

-- what is seen of an expression: the name that it is, or the nest
pub record Shape : Type 0 where
  pub name : Option Bytes
  pub nest : Option Calls

abbrev pub no_shape : Shape
no_shape = record { name = None; nest = None }

abbrev pub nest_shape : Option Calls → Shape
nest_shape calls = record { name = None; nest = calls }

-- what is seen of a step of a chain: the name of an attribute, the nests that a call is given, or nothing
pub data Link : Type 0 where
  Member : Bytes → Link
  Given : List (Option Calls) → Link
  Other : Link

abbrev pub is_small : ℤ → Bool
is_small (pos n) = nat_le n 999999999
is_small (negsuc n) = false

-- a text or a number holds no call
abbrev pub no_calls : Option Calls
no_calls = Some []

abbrev pub number_nest : ℤ → Option Calls
number_nest n = if is_small n then no_calls else None

abbrev pub member_of : Link → Option Bytes
member_of (Member n) = Some n
member_of _ = None

-- the names of attributes, one behind the other
abbrev pub members_in : List Link → Option Parts
members_in [] = Some []
members_in (link ∷ links) = do
  name ← member_of link
  names ← members_in links
  Some (name ∷ names)

-- what stands in the brackets of a call
abbrev pub nest_within : Link → Option Calls
nest_within (Given []) = no_calls
nest_within (Given (calls ∷ [])) = calls
nest_within _ = None

-- the names of a name and attributes of it
abbrev pub callee_names : Option Bytes → List Link → Option Parts
callee_names base links = do
  first ← base
  members ← members_in links
  Some (first ∷ members)

-- the last step, and those before it
abbrev pub last_link : List Link → Option Link
last_link links = slice_get links (length links - 1)

abbrev pub links_before_last : List Link → List Link
links_before_last links = take (length links - 1) links

-- a call of these names
abbrev pub call_nest : Pos → Option Parts → Link → Option Calls
call_nest at callee link = do
  names ← callee
  inner ← nest_within link
  Some (record { names = names; at = at } ∷ inner)

-- a name, attributes of it, and then one call
abbrev pub chain_nest : Pos → Option Bytes → List Link → Option Calls
chain_nest at base links = last_link links >>= call_nest at (callee_names base (links_before_last links))

-- ---- over trees

abbrev pub shape_by_form : Form-F (Pos → Shape) (Unit {0}) Link (Option Calls) (Unit {0}) Shape (Unit {0}) (Unit {0}) (Unit {0}) Link → Pos → Shape
shape_by_form (Form-F.Name n) = λ at. record { name = Some n; nest = None }
shape_by_form (Form-F.Number n) = λ at. nest_shape (number_nest n)
shape_by_form (Form-F.Form::Text s) = λ at. nest_shape no_calls
shape_by_form (Form-F.Postfix base links) = λ at. nest_shape (chain_nest at base.name links)
shape_by_form _ = λ at. no_shape

abbrev pub link_by_form : StepForm-F (Pos → Shape) (Unit {0}) Link (Option Calls) (Unit {0}) Shape (Unit {0}) (Unit {0}) (Unit {0}) Link → Link
link_by_form (StepForm-F.Attribute n) = Member n
link_by_form (StepForm-F.Subscript e) = Other
link_by_form (StepForm-F.Call arguments) = Given arguments

-- an argument with a keyword is none of the form
abbrev pub nest_by_argument : Argument-F (Pos → Shape) (Unit {0}) Link (Option Calls) (Unit {0}) Shape (Unit {0}) (Unit {0}) (Unit {0}) Link → Option Calls
nest_by_argument a = elim a.keyword [ None ↦ a.value.nest | Some n ↦ None ]

abbrev pub shape_by_expr : Expr-F (Pos → Shape) (Unit {0}) Link (Option Calls) (Unit {0}) Shape (Unit {0}) (Unit {0}) (Unit {0}) Link → Shape
shape_by_expr e = e.form e.anchor

abbrev pub link_by_step : Step-F (Pos → Shape) (Unit {0}) Link (Option Calls) (Unit {0}) Shape (Unit {0}) (Unit {0}) (Unit {0}) Link → Link
link_by_step s = s.form

abbrev pub shape_of : Expr → Shape
shape_of = fold-Expr (Pos → Shape) (Unit {0}) Link (Option Calls) (Unit {0}) Shape (Unit {0}) (Unit {0}) (Unit {0}) Link shape_by_form (λ p. tt) link_by_form nest_by_argument (λ c. tt) shape_by_expr (λ j. tt) (λ o. tt) (λ p. tt) link_by_step

abbrev pub link_of : Step → Link
link_of = fold-Step (Pos → Shape) (Unit {0}) Link (Option Calls) (Unit {0}) Shape (Unit {0}) (Unit {0}) (Unit {0}) Link shape_by_form (λ p. tt) link_by_form nest_by_argument (λ c. tt) shape_by_expr (λ j. tt) (λ o. tt) (λ p. tt) link_by_step

abbrev pub argument_nest : Argument → Option Calls
argument_nest = fold-Argument (Pos → Shape) (Unit {0}) Link (Option Calls) (Unit {0}) Shape (Unit {0}) (Unit {0}) (Unit {0}) Link shape_by_form (λ p. tt) link_by_form nest_by_argument (λ c. tt) shape_by_expr (λ j. tt) (λ o. tt) (λ p. tt) link_by_step

-- the calls of the nest that an expression is, if it is one
abbrev pub nest_of : Expr → Option Calls
nest_of e = (shape_of e).nest
