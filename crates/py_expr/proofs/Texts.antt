-- The text of strings in a row: what is read of them, before what is left.
use Rattle.std.proofs.Common.{◌≡◌, ℕ, List, [], ◌∷◌, ◌++◌, Option, Some, None, refl, ap, sym, append_assoc}
use Rattle.py_literals.specs.declared.place.Pos.{Pos}
use Rattle.py_ast.specs.declared.tree.Piece.{Piece}
use Rattle.py_ast.specs.declared.tree.Piece.TheVariants as pieces
use Rattle.phrases.proofs.Sets.{append_none}
use Rattle.py_ast.specs.declared.tree.Form.TheVariants as forms
use Rattle.py_ast.specs.declared.tree.Part.{Part}
use Rattle.py_ast.specs.Trees.{plain_text, joined_form}

-- a text before the text that follows, if there is one
abbrev pub before : List ℕ → Option (List ℕ) → Option (List ℕ)
before text None = None
before text (Some more) = Some (text ++ more)

pub before_none : (more : Option (List ℕ)) → before [] more ≡ more
before_none None = refl
before_none (Some more) = refl

pub before_plain : (text : List ℕ) (at : Pos) (s : List ℕ) (ps : List (Pos × Piece)) → before text (plain_text ((at, pieces.Plain s) ∷ ps)) ≡ before (text ++ s) (plain_text ps)
before_plain text at s ps =
    elim (plain_text ps) as (λ m. before text (elim m as (λ n. Option (List ℕ)) [ None ↦ None | Some rest ↦ Some (s ++ rest) ]) ≡ before (text ++ s) m) [
      | None ↦ refl
      | Some rest ↦ ap Some (sym (append_assoc text s rest))
    ]

-- a string alone
pub alone_plain : (at : Pos) (s : List ℕ) → joined_form ((at, pieces.Plain s) ∷ []) (plain_text ((at, pieces.Plain s) ∷ [])) ≡ forms.Text s
alone_plain at s = ap forms.Text (append_none s)

pub alone_formatted : (at : Pos) (ps : List Part) → joined_form ((at, pieces.Formatted ps) ∷ []) (plain_text ((at, pieces.Formatted ps) ∷ [])) ≡ forms.Formatted ps
alone_formatted at ps = ap forms.Formatted (append_none ps)
