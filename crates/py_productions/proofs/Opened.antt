-- One layer of a tree that is made of its parts.
use Rattle.std.proofs.Common.{◌≡◌, ℕ, ℤ, List, sym, ap, ◌∙◌}
use Rattle.py_ast.specs.declared.tree.Compared.{Compared}
use Rattle.py_ast.specs.declared.tree.Argument.{Argument}
use Rattle.py_ast.specs.declared.tree.Constant.{Constant}
use Rattle.py_ast.specs.declared.tree.Expr.{Expr}
use Rattle.py_ast.specs.declared.tree.Form.{out-Form}
use Rattle.py_ast.specs.declared.tree.Form.TheOpen.{Form-F as open_forms, StepForm-F as open_steps}
use Rattle.py_ast.specs.declared.tree.Form.TheViews.{out-roll-Form, out-roll-StepForm}
use Rattle.py_ast.specs.declared.tree.Form.TheVariants.{rolls-Name, rolls-Number, rolls-Text, rolls-Formatted, rolls-Constant, rolls-Tuple, rolls-List, rolls-Dictionary, rolls-Conditional, rolls-Or, rolls-And, rolls-Not, rolls-Comparison, rolls-Binary, rolls-Unary, rolls-Power, rolls-Postfix}
use Rattle.py_ast.specs.declared.tree.Form.TheVariants as forms
use Rattle.py_ast.specs.declared.tree.Joined.{Joined}
use Rattle.py_ast.specs.declared.tree.Operand.{Operand}
use Rattle.py_ast.specs.declared.tree.Pair.{Pair}
use Rattle.py_ast.specs.declared.tree.Part.{Part}
use Rattle.py_ast.specs.declared.tree.Step.{Step}
use Rattle.py_ast.specs.declared.tree.StepForm.{out-StepForm}
use Rattle.py_ast.specs.declared.tree.StepForm.TheVariants.{rolls-Attribute, rolls-Subscript, rolls-Call}
use Rattle.py_ast.specs.declared.tree.StepForm.TheVariants as steps
use Rattle.py_ast.specs.declared.tree.UnaryOperator.{UnaryOperator}

pub open-name : (n : List ℕ) → out-Form (forms.Name n) ≡ open_forms.Name n
open-name n = ap out-Form (sym (rolls-Name n)) ∙ out-roll-Form (open_forms.Name n)

pub open-number : (n : ℤ) → out-Form (forms.Number n) ≡ open_forms.Number n
open-number n = ap out-Form (sym (rolls-Number n)) ∙ out-roll-Form (open_forms.Number n)

pub open-text : (s : List ℕ) → out-Form (forms.Text s) ≡ open_forms.«Form::Text» s
open-text s = ap out-Form (sym (rolls-Text s)) ∙ out-roll-Form (open_forms.«Form::Text» s)

pub open-formatted : (ps : List Part) → out-Form (forms.Formatted ps) ≡ open_forms.Formatted ps
open-formatted ps = ap out-Form (sym (rolls-Formatted ps)) ∙ out-roll-Form (open_forms.Formatted ps)

pub open-constant : (k : Constant) → out-Form (forms.Constant k) ≡ open_forms.Constant k
open-constant k = ap out-Form (sym (rolls-Constant k)) ∙ out-roll-Form (open_forms.Constant k)

pub open-tuple : (es : List Expr) → out-Form (forms.Tuple es) ≡ open_forms.Tuple es
open-tuple es = ap out-Form (sym (rolls-Tuple es)) ∙ out-roll-Form (open_forms.Tuple es)

pub open-list : (es : List Expr) → out-Form (forms.List es) ≡ open_forms.List es
open-list es = ap out-Form (sym (rolls-List es)) ∙ out-roll-Form (open_forms.List es)

pub open-dictionary : (ps : List Pair) → out-Form (forms.Dictionary ps) ≡ open_forms.Dictionary ps
open-dictionary ps = ap out-Form (sym (rolls-Dictionary ps)) ∙ out-roll-Form (open_forms.Dictionary ps)

pub open-conditional : (a b c : Expr) → out-Form (forms.Conditional a b c) ≡ open_forms.Conditional a b c
open-conditional a b c = ap out-Form (sym (rolls-Conditional a b c)) ∙ out-roll-Form (open_forms.Conditional a b c)

pub open-or : (e : Expr) (js : List Joined) → out-Form (forms.Or e js) ≡ open_forms.Or e js
open-or e js = ap out-Form (sym (rolls-Or e js)) ∙ out-roll-Form (open_forms.Or e js)

pub open-and : (e : Expr) (js : List Joined) → out-Form (forms.And e js) ≡ open_forms.And e js
open-and e js = ap out-Form (sym (rolls-And e js)) ∙ out-roll-Form (open_forms.And e js)

pub open-not : (e : Expr) → out-Form (forms.Not e) ≡ open_forms.Not e
open-not e = ap out-Form (sym (rolls-Not e)) ∙ out-roll-Form (open_forms.Not e)

pub open-comparison : (e : Expr) (cs : List Compared) → out-Form (forms.Comparison e cs) ≡ open_forms.Comparison e cs
open-comparison e cs = ap out-Form (sym (rolls-Comparison e cs)) ∙ out-roll-Form (open_forms.Comparison e cs)

pub open-binary : (e : Expr) (os : List Operand) → out-Form (forms.Binary e os) ≡ open_forms.Binary e os
open-binary e os = ap out-Form (sym (rolls-Binary e os)) ∙ out-roll-Form (open_forms.Binary e os)

pub open-unary : (o : UnaryOperator) (e : Expr) → out-Form (forms.Unary o e) ≡ open_forms.Unary o e
open-unary o e = ap out-Form (sym (rolls-Unary o e)) ∙ out-roll-Form (open_forms.Unary o e)

pub open-power : (a b : Expr) → out-Form (forms.Power a b) ≡ open_forms.Power a b
open-power a b = ap out-Form (sym (rolls-Power a b)) ∙ out-roll-Form (open_forms.Power a b)

pub open-postfix : (e : Expr) (ss : List Step) → out-Form (forms.Postfix e ss) ≡ open_forms.Postfix e ss
open-postfix e ss = ap out-Form (sym (rolls-Postfix e ss)) ∙ out-roll-Form (open_forms.Postfix e ss)

pub open-attribute : (n : List ℕ) → out-StepForm (steps.Attribute n) ≡ open_steps.Attribute n
open-attribute n = ap out-StepForm (sym (rolls-Attribute n)) ∙ out-roll-StepForm (open_steps.Attribute n)

pub open-subscript : (e : Expr) → out-StepForm (steps.Subscript e) ≡ open_steps.Subscript e
open-subscript e = ap out-StepForm (sym (rolls-Subscript e)) ∙ out-roll-StepForm (open_steps.Subscript e)

pub open-call : (arguments : List Argument) → out-StepForm (steps.Call arguments) ≡ open_steps.Call arguments
open-call arguments = ap out-StepForm (sym (rolls-Call arguments)) ∙ out-roll-StepForm (open_steps.Call arguments)
