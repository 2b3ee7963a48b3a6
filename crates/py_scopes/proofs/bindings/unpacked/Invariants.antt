use Rattle.std.proofs.Common.{◌≡◌, ◌++◌, map, drop}
use Rattle.std.specs.List.{flat_map}
use Rattle.py_ast.specs.Bindings.{bound_all, given_name, name_in}
use Rattle.py_ast.specs.declared.binding.BindingKind.TheVariants as kinds
use Rattle.py_scopes.proofs.bindings.unpacked.Given as goal

abbrev pub invariant-loop-expr : goal.invariant-loop-expr
invariant-loop-expr l =
    l.found ++ bound_all l.place.looped l.place.node kinds.Unpacked (flat_map (λ e. given_name (name_in e)) (drop l.expr-index l.exprs))
    ≡ l.initial.found ++ bound_all l.place.looped l.place.node kinds.Unpacked (flat_map (λ e. given_name (name_in e)) l.exprs)
