-- Expressions with commas are those of the production.
use Rattle.std.proofs.Common.{◌≡◌, ◌↔◌, ℕ, List, [], ◌∷◌, Option, Some, None, refl, sym, ap, subst, ◌∙◌}
use Rattle.phrases.specs.Phrases.{Phrase}
use Rattle.py_literals.specs.declared.place.Pos.{Pos}
use Rattle.py_lexer.specs.declared.token.Kind.TheVariants as kinds
use Rattle.py_lexer.specs.declared.token.Token.{Token}
use Rattle.py_ast.specs.Trees.{behind, tuple_of}
use Rattle.py_ast.specs.Grammar.{mapped, expr_first, items, exprs, expr}
use Rattle.py_ast.specs.declared.tree.Expr.{Expr}
use Rattle.py_ast.specs.declared.tree.Form.TheVariants as forms
use Rattle.py_productions.specs.Rules.{Listed}
use Rattle.py_productions.specs.Expressions.{Expression, listed_tree, Expressions}
use Rattle.py_productions.proofs.Parts.{mapped-out, mapped-in}
use Rattle.py_productions.proofs.Commas.{commas, commas-given, FreeList, free-out, free-into}

pub tuple-is : (e : Expr) (others : List (Pos × Expr)) (end : Option Pos) → tuple_of (e, commas others end) ≡ listed_tree e others end
tuple-is e [] None = refl
tuple-is e [] (Some at) = refl
tuple-is e ((at, f) ∷ others) end = ap (λ (k : List Expr). behind at e (forms.Tuple (e ∷ f ∷ k))) (commas-given others end)

module _ (e : Phrase Token Expr) where
  pub items-out : (x : List Token) (a : Expr) (is : List (Pos × Option Expr)) → (items e).Spells x (a, is) → FreeList expr_first e x a is
  unfolding items
  items-out x a is h = free-out expr_first e x a is h

  pub items-into : (x : List Token) (a : Expr) (others : List (Pos × Expr)) (end : Option Pos) → Listed kinds.Comma e.Spells x a others end → (items e).Spells x (a, commas others end)
  unfolding items
  items-into x a others end l = free-into expr_first e x a others end l

  pub exprs-out : (x : List Token) (t : Expr) → (exprs e).Spells x t → Expressions e.Spells x t
  unfolding exprs items
  exprs-out x t h =
      let m = mapped-out (items e) tuple_of x t h in
      let l = free-out expr_first e x m.from.0 m.from.1 m.spelled in
      record { first = m.from.0; others = l.others; end = l.end; listed = l.listed; tree = m.value ∙ ap (λ k. tuple_of (m.from.0, k)) l.same ∙ tuple-is m.from.0 l.others l.end }

  pub exprs-into : (x : List Token) (t : Expr) → Expressions e.Spells x t → (exprs e).Spells x t
  unfolding exprs items
  exprs-into x t h =
      subst (λ (k : Expr). (mapped (items e) tuple_of).Spells x k) (tuple-is h.first h.others h.end ∙ sym h.tree)
      (mapped-in (items e) tuple_of x (h.first, commas h.others h.end) (free-into expr_first e x h.first h.others h.end h.listed))

pub expressions : (room : ℕ) (x : List Token) (e : Expr) → (exprs (expr room)).Spells x e ↔ Expressions (Expression room) x e
expressions room x e = (exprs-out (expr room) x e, exprs-into (expr room) x e)
