use Rattle.std.proofs.Common.{◌≡◌, List, [], refl, ap, sym, ◌∙◌}
use Rattle.py_literals.specs.declared.place.Pos.{Pos}
use Rattle.py_ast.specs.declared.tree.Form.{Form}
use Rattle.py_ast.specs.declared.tree.Piece.{Piece}
use Rattle.py_ast.specs.Trees.{leaf, strings_of}
use Rattle.py_expr.proofs.strings.as_strings.Goals as goal

pub returns : goal.returns
returns c =
    let p = c.args.first in
    let none : c.args.others ≡ [] = c.if-not-is_empty.ensures.0 refl in
    c.make_leaf.ensures ∙ ap (λ (form : Form). leaf p.0 form) (c.alone.ensures p.0) ∙ ap (λ (ps : List (Pos × Piece)). strings_of p ps) (sym none)
