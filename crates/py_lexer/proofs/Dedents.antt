-- The fault of a line's column.
use Rattle.std.proofs.Common.{◌≡◌, ℕ, ◌≤◌, Bool, true, false, cond, eqb, nat_lt, List, ◌∷◌, drop, refl, sym, ◌∙◌}
use Rattle.std.proofs.lemmas.Bool.{ne_eqb, le-ltb}
use Rattle.py_literals.specs.declared.place.Pos.{Pos}
use Rattle.py_lexer.specs.declared.token.Kind.TheVariants as kinds
use Rattle.py_lexer.specs.declared.token.Value.TheVariants as values
use Rattle.py_lexer.specs.declared.state.Mode.TheVariants as modes
use Rattle.py_lexer.specs.declared.state.State.{State}
use Rattle.py_lexer.specs.Stack.{top}
use Rattle.py_lexer.specs.Inside.{inside}
use Rattle.py_lexer.specs.declared.token.LexKind.{LexKind}
use Rattle.py_lexer.specs.declared.token.LexKind.TheVariants.{BadChar, BadDedent}
use Rattle.py_lexer.specs.Front.{Front, Found, Passed, Bad}
use Rattle.py_lexer.specs.Margin.{is_open, bad_dedent, indentation}

pub not_char : (k : LexKind) (n : ℕ) → (k ≡ BadChar → ⊥) → Bad BadDedent 0 ≡ bad_dedent (Bad k n)
not_char BadChar n h = absurd (h refl)
not_char _ n h = refl

indentation_last : (s : State) (column : ℕ) (f : Front) (a b d : Bool) → a ≡ false → b ≡ false → d ≡ false → f ≡ cond a (Passed 0 (record s { mode = modes.Inside })) (cond b (Found 0 kinds.Indent values.Nothing (record s { mode = modes.Inside; blocks = column ∷ s.blocks })) (cond d (Found 0 kinds.Dedent values.Nothing (record s { blocks = drop 1 s.blocks })) f))
indentation_last s column f true b d e g h = absurd (cc)
indentation_last s column f false true d e g h = absurd (cc)
indentation_last s column f false false true e g h = absurd (cc)
indentation_last s column f false false false e g h = refl

-- where the column is neither that of the block, nor greater, nor that of a block round it
pub last_fault : (at : Pos) (s : State) (column c t : ℕ) (cs : List ℕ) (o : Bool) → t ≡ top s.blocks → (column ≡ t → ⊥) → column ≤ t → o ≡ is_open s.blocks column → o ≡ false → bad_dedent (inside at s c cs) ≡ indentation at s column c cs
last_fault at s column c t cs o is other small open_is shut =
    let e : eqb column (top s.blocks) ≡ false = rw (← is) (ne_eqb column t other) in
    let f : nat_lt (top s.blocks) column ≡ false = rw (← is) (le-ltb t column small) in
    let g : is_open s.blocks column ≡ false = sym open_is ∙ shut in
    indentation_last s column (bad_dedent (inside at s c cs)) (eqb column (top s.blocks)) (nat_lt (top s.blocks) column) (is_open s.blocks column) e f g
