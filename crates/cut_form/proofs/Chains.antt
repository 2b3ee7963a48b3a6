-- What the last step of a chain and the steps before it say of the nest that the chain is.
use Rattle.std.proofs.Common.{◌≡◌, ◌-◌, ◌<◌, ◌≤◌, List, [], ◌∷◌, ◌++◌, length, map, take, get_or, slice_get, Option, Some, None, option_map, refl, sym, ap, ◌∙◌, arith, append_assoc}
use Rattle.std.proofs.lemmas.List.{take-map, length-map}
use Rattle.std.proofs.lemmas.Option.{slice_get-map, slice_get_read}
use Rattle.rv_names.specs.Keys.{Bytes, Parts}
use Rattle.py_literals.specs.declared.place.Pos.{Pos}
use Rattle.py_ast.specs.declared.tree.Expr.{Expr, out-Expr, fold_out-Expr}
use Rattle.py_ast.specs.declared.tree.Form.{Form, fold-Form, fold-roll-Form}
use Rattle.py_ast.specs.declared.tree.Form.TheVariants as forms
use Rattle.py_ast.specs.declared.tree.Form.TheOpen.{Form-F as open_forms}
use Rattle.py_ast.specs.declared.tree.Step.{Step}
use Rattle.cut_form.specs.declared.nests.Call.{Call}
use Rattle.cut_form.specs.Answers.{◌>>=◌}
use Rattle.cut_form.specs.Nests.{Calls, Link, Shape, call_nest, callee_names, chain_nest, link_by_form, link_by_step, link_of, nest_by_argument, nest_of, nest_within, shape_by_expr, shape_by_form, shape_of}

abbrev pub named : Pos → Parts → Call
named at names = record { names = names; at = at }

chain_last : (at : Pos) (base : Option Bytes) (steps : List Step) (last : Step) → 1 ≤ length steps → last ≡ get_or steps (length steps - 1) last
    → chain_nest at base (map link_of steps) ≡ call_nest at (callee_names base (map link_of (take (length steps - 1) steps))) (link_of last)
chain_last at base steps last some is =
    ap (λ n. slice_get (map link_of steps) (n - 1) >>= call_nest at (callee_names base (take (n - 1) (map link_of steps)))) (length-map steps link_of)
    ∙ ap (λ o. o >>= call_nest at (callee_names base (take (length steps - 1) (map link_of steps))))
    (slice_get-map link_of steps (length steps - 1) ∙ ap (option_map link_of) (slice_get_read steps (length steps) (length steps - 1) last refl within is))
    ∙ ap (λ links. call_nest at (callee_names base links) (link_of last)) (take-map link_of (length steps - 1) steps)
  where
    within : length steps - 1 < length steps
    within = omega arith

-- the calls of a nest behind those that were added before, the outermost of it being added now
call_added : (calls more : Calls) (at : Pos) (names : Option Parts) (link : Link) → option_map (λ ns. calls ++ named at ns ∷ []) names ≡ Some more
    → option_map (λ inner. calls ++ inner) (call_nest at names link) ≡ option_map (λ inner. more ++ inner) (nest_within link)
call_added calls more at None link e = grind (arith, e)
call_added calls more at (Some names) link e = go (nest_within link)
  where
    go : (inner : Option Calls) → option_map (λ i. calls ++ i) (inner >>= λ i. Some (named at names ∷ i)) ≡ option_map (λ i. more ++ i) inner
    go None = refl
    go (Some i) = ap Some (sym (append_assoc calls (named at names ∷ []) i)) ∙ ap (option_map (λ m. m ++ i)) e

nest_last : (calls more : Calls) (at : Pos) (base : Option Bytes) (steps : List Step) (last : Step) → 1 ≤ length steps → last ≡ get_or steps (length steps - 1) last
    → option_map (λ ns. calls ++ named at ns ∷ []) (callee_names base (map link_of (take (length steps - 1) steps))) ≡ Some more
    → option_map (λ inner. calls ++ inner) (chain_nest at base (map link_of steps)) ≡ option_map (λ inner. more ++ inner) (nest_within (link_of last))
nest_last calls more at base steps last some is e =
    ap (option_map (λ inner. calls ++ inner)) (chain_last at base steps last some is)
    ∙ call_added calls more at (callee_names base (map link_of (take (length steps - 1) steps))) (link_of last) e

-- what is seen of what an expression is, where it is anchored here
abbrev pub form_shape : Form → Pos → Shape
form_shape = fold-Form (Pos → Shape) (Unit {0}) Link (Option Calls) (Unit {0}) Shape (Unit {0}) (Unit {0}) (Unit {0}) Link shape_by_form (λ p. tt) link_by_form nest_by_argument (λ c. tt) shape_by_expr (λ j. tt) (λ o. tt) (λ p. tt) link_by_step

chain_shape : (at : Pos) (base : Expr) (steps : List Step) → form_shape (forms.Postfix base steps) at ≡ shape_by_form (open_forms.Postfix (shape_of base) (map link_of steps)) at
chain_shape at base steps =
    ap (λ f. form_shape f at) (sym (forms.rolls-Postfix base steps))
    ∙ ap (λ f. f at) (fold-roll-Form (Pos → Shape) (Unit {0}) Link (Option Calls) (Unit {0}) Shape (Unit {0}) (Unit {0}) (Unit {0}) Link shape_by_form (λ p. tt) link_by_form nest_by_argument (λ c. tt) shape_by_expr (λ j. tt) (λ o. tt) (λ p. tt) link_by_step (open_forms.Postfix base steps))

chain_of : (e base : Expr) (steps : List Step) → (out-Expr e).form ≡ forms.Postfix base steps → nest_of e ≡ chain_nest (out-Expr e).anchor (shape_of base).name (map link_of steps)
chain_of e base steps is =
    ap (λ s. s.nest) (fold_out-Expr (Pos → Shape) (Unit {0}) Link (Option Calls) (Unit {0}) Shape (Unit {0}) (Unit {0}) (Unit {0}) Link shape_by_form (λ p. tt) link_by_form nest_by_argument (λ c. tt) shape_by_expr (λ j. tt) (λ o. tt) (λ p. tt) link_by_step e)
    ∙ ap (λ f. (form_shape f (out-Expr e).anchor).nest) is
    ∙ ap (λ s. s.nest) (chain_shape (out-Expr e).anchor base steps)

-- the calls of a chain behind those that were added before
pub chain_added : (calls more : Calls) (e base first : Expr) (steps parts : List Step) (last : Step) → (out-Expr e).form ≡ forms.Postfix base steps → first ≡ base → parts ≡ steps
    → 1 ≤ length parts → last ≡ get_or parts (length parts - 1) last
    → option_map (λ ns. calls ++ named (out-Expr e).anchor ns ∷ []) (callee_names (shape_of first).name (map link_of (take (length parts - 1) parts))) ≡ Some more
    → option_map (λ inner. calls ++ inner) (nest_of e) ≡ option_map (λ inner. more ++ inner) (nest_within (link_of last))
chain_added calls more e base first steps parts last form same_base same_steps some is added =
    ap (option_map (λ inner. calls ++ inner)) (chain_of e base steps form)
    ∙ ap (λ b. option_map (λ inner. calls ++ inner) (chain_nest (out-Expr e).anchor (shape_of b).name (map link_of steps))) (sym same_base)
    ∙ ap (λ s. option_map (λ inner. calls ++ inner) (chain_nest (out-Expr e).anchor (shape_of first).name (map link_of s))) (sym same_steps)
    ∙ nest_last calls more (out-Expr e).anchor (shape_of first).name parts last some is added
