-- Each piece leaves less to read.
use Rattle.std.proofs.Common.{◌≡◌, ℕ, zero, suc, ◌+◌, ◌-◌, ◌<◌, ◌≤◌, Bool, true, false, cond, eqb, nat_lt, List, [], ◌∷◌, length, take, drop, Option, Some, None, Result, Ok, Err, refl, arith}
use Rattle.std.specs.List.{prefix_len}
use Rattle.std.proofs.lemmas.Bool.Decides.{nat_tests}
use Rattle.std.proofs.Common.{length-drop}
use Rattle.py_literals.specs.declared.place.Pos.{Pos}
use Rattle.py_literals.specs.declared.text.StringKind.{StringKind}
use Rattle.py_literals.specs.declared.text.Prefix.{Prefix}
use Rattle.py_literals.specs.declared.text.Opening.{Opening}
use Rattle.py_literals.specs.Text.{opening, opened, two_quotes, is_quote, prefix, one_letter, two_letters, lower}
use Rattle.py_literals.specs.Escape.{decoded}
use Rattle.py_literals.specs.Formatted as literals
use Rattle.py_lexer.specs.declared.chars.Class.{Class}
use Rattle.py_lexer.specs.declared.chars.Class.TheVariants.{White, LineEnd, Comment, Backslash, Quote, Digit, Dot, Letter, Sign}
use Rattle.py_lexer.specs.declared.token.LexKind.TheVariants.{BadChar, FStringForm}
use Rattle.py_lexer.specs.declared.token.Kind.TheVariants as kinds
use Rattle.py_lexer.specs.declared.token.Value.TheVariants as values
use Rattle.py_lexer.specs.declared.state.Mode.{Mode}
use Rattle.py_lexer.specs.declared.state.Mode.TheVariants as modes
use Rattle.py_lexer.specs.declared.state.State.{State}
use Rattle.py_lexer.specs.Chars.{class_of, is_white, is_line_end, is_in_line, is_digit}
use Rattle.py_lexer.specs.Stack.{top}
use Rattle.py_lexer.specs.Front.{Front, Found, Passed, Bad, front_of_lexeme}
use Rattle.py_lexer.specs.Words.{next_is, number}
use Rattle.py_lexer.specs.Strings.{quotes_len, quotes_at, unformatted_by, unformatted, formatted, string_by, string_at, string_or_word_at}
use Rattle.py_lexer.specs.Inside.{line_end, operator, inside_by, inside}
use Rattle.py_lexer.specs.Margin.{gap_len, indent_of, white_of, is_of, margin_by, margin, is_open, bad_dedent, indentation}
use Rattle.py_lexer.specs.Formatted.{text_by, text_of, literal_by, field}
use Rattle.py_lexer.specs.Pieces.{last_block, last_line, finish, piece_by, piece}
use Rattle.py_lexer.proofs.Sizes.{rank, unended, size_by, size_below, size_some, Shrinks, shrinks_if, ahead, IsSome, some_if, shrinks_lexeme, word_some, number_some, operator_shrinks, longest_operator_some}

-- strings

abbrev OpeningIsSome : Option Opening → Type 0
OpeningIsSome None = Unit {0}
OpeningIsSome (Some o) = 0 < o.len

opening_if : (b : Bool) (f g : Option Opening) → OpeningIsSome f → OpeningIsSome g → OpeningIsSome (cond b f g)
opening_if true f g h k = h
opening_if false f g h k = k

quotes_some : (n : ℕ) (b : Bool) → 0 < n + (cond b 3 1)
quotes_some n true = omega arith
quotes_some n false = omega arith

opened_some : (p : Option Prefix) (n q : ℕ) (cs : List ℕ) → OpeningIsSome (opened p n q cs)
opened_some None n q cs = tt
opened_some (Some p) n q cs = quotes_some n (two_quotes q cs)

opening_some : (cs : List ℕ) → OpeningIsSome (opening cs)
opening_some [] = tt
opening_some (a ∷ []) = opening_if (is_quote a) _ _ (opened_some (prefix false false false) 0 a []) tt
opening_some (a ∷ b ∷ []) =
    opening_if (is_quote a) _ _ (opened_some (prefix false false false) 0 a (b ∷ []))
    (opening_if (is_quote b) _ _ (opened_some (one_letter (lower a)) 1 b []) tt)
opening_some (a ∷ b ∷ c ∷ cs) =
    opening_if (is_quote a) _ _ (opened_some (prefix false false false) 0 a (b ∷ c ∷ cs))
    (opening_if (is_quote b) _ _ (opened_some (one_letter (lower a)) 1 b (c ∷ cs))
    (opening_if (is_quote c) _ _ (opened_some (two_letters (lower a) (lower b)) 2 c cs) tt))

quotes_len_some : (n : ℕ) (kind : StringKind) → 0 < n + quotes_len kind
quotes_len_some n kind = quotes_some n kind.triple

unformatted_some : (o : Opening) (n : ℕ) (r : Result (List ℕ) ℕ) → IsSome (unformatted_by o n r)
unformatted_some o n (Err bad) = tt
unformatted_some o n (Ok value) = some_if o.kind.bytes _ _ (quotes_len_some (o.len + n) o.kind) (quotes_len_some (o.len + n) o.kind)

string_shrinks : (j : ℕ) (s : State) (o : Opening) (rest : List ℕ) (n : Option ℕ) → 0 < o.len → Shrinks (suc j) s (string_by s o rest n)
string_shrinks j s o rest None h = tt
string_shrinks j s o rest (Some n) h =
    let u : State = record s { mode = modes.Literal o.kind (length rest - n) } in
    shrinks_if (suc j) s o.kind.formatted (formatted s o (take n rest) (length rest - n)) (front_of_lexeme (unformatted o (take n rest)) s)
    (shrinks_if (suc j) s (literals.has_form o.kind (take n rest)) (Found o.len kinds.FStringStart values.Nothing u) (Bad FStringForm (quotes_at o)) (ahead j o.len s u h (omega arith)) tt)
    (shrinks_lexeme j s (unformatted o (take n rest)) (unformatted_some o (length (take n rest)) (decoded o.kind (take n rest))))

string_at_shrinks : (j : ℕ) (s : State) (cs : List ℕ) (o : Option Opening) → OpeningIsSome o → Shrinks (suc j) s (string_at s cs o)
string_at_shrinks j s cs None h = tt
string_at_shrinks j s cs (Some o) h = string_shrinks j s o _ _ h

string_or_word_shrinks : (j : ℕ) (s : State) (c : ℕ) (cs : List ℕ) (o : Option Opening) → OpeningIsSome o → Shrinks (suc j) s (string_or_word_at s (c ∷ cs) o)
string_or_word_shrinks j s c cs None h = shrinks_lexeme j s _ (word_some c cs)
string_or_word_shrinks j s c cs (Some o) h = string_shrinks j s o _ _ h

-- inside a line

line_end_shrinks : (j : ℕ) (s : State) (brackets : List Pos) → Shrinks (suc j) s (line_end s brackets)
line_end_shrinks j s [] = ahead j 1 s _ (omega arith) (omega arith)
line_end_shrinks j s (at ∷ outer) = ahead j 1 s _ (omega arith) (omega arith)

inside_by_shrinks : (class : Class) (j : ℕ) (at : Pos) (s : State) (c : ℕ) (cs : List ℕ) → Shrinks (suc j) s (inside_by class at s c cs)
inside_by_shrinks White j at s c cs = ahead j (1 + prefix_len is_white cs) s s (omega arith) (omega arith)
inside_by_shrinks LineEnd j at s c cs = line_end_shrinks j s s.brackets
inside_by_shrinks Comment j at s c cs = ahead j (1 + prefix_len is_in_line cs) s s (omega arith) (omega arith)
inside_by_shrinks Backslash j at s c cs = shrinks_if (suc j) s (next_is is_line_end cs) (Passed 2 s) (Bad BadChar 0) (ahead j 2 s s (omega arith) (omega arith)) tt
inside_by_shrinks Quote j at s c cs = string_at_shrinks j s (c ∷ cs) _ (opening_some (c ∷ cs))
inside_by_shrinks Digit j at s c cs = shrinks_lexeme j s _ (number_some (c ∷ cs))
inside_by_shrinks Dot j at s c cs =
    shrinks_if (suc j) s (next_is is_digit cs) (front_of_lexeme (number (c ∷ cs)) s) (operator at s c cs) (shrinks_lexeme j s _ (number_some (c ∷ cs))) (operator_shrinks j at s c _ (longest_operator_some (c ∷ cs)))
inside_by_shrinks Letter j at s c cs = string_or_word_shrinks j s c cs _ (opening_some (c ∷ cs))
inside_by_shrinks Sign j at s c cs = operator_shrinks j at s c _ (longest_operator_some (c ∷ cs))

pub inside_shrinks : (j : ℕ) (at : Pos) (s : State) (c : ℕ) (cs : List ℕ) → Shrinks (suc j) s (inside at s c cs)
inside_shrinks j at s c cs = inside_by_shrinks (class_of c) j at s c cs

-- where a logical line begins

less : (m n : ℕ) (s t : State) → 0 < m → 0 < n → length t.blocks ≤ length s.blocks → size_by (m - n) t < size_by m s
less m n s t left some blocks = omega (arith, size_below (m - n) t, size_some m s left)

-- the indentation was read
indent_read : (m n : ℕ) (s t : State) → n < m → rank s.mode ≡ 3 → rank t.mode ≡ 2 → length t.blocks ≡ length s.blocks → size_by (m - n) t < size_by m s
indent_read m n s t short before behind blocks = omega (arith, size_some (m - n) t (omega arith), size_some m s (omega arith))

margin_by_shrinks : (m n : ℕ) (s : State) (cs rest : List ℕ) → 0 < m → length rest ≡ m - n → rank s.mode ≡ 3 → Shrinks m s (margin_by s n cs rest)
margin_by_shrinks m n s cs [] left e before = less m n s s left (omega arith) (omega arith)
margin_by_shrinks m n s cs (c ∷ rest) left e before =
    shrinks_if m s (is_line_end c) _ _ (less m (n + 1) s s left (omega arith) (omega arith))
    (shrinks_if m s (eqb c 35) _ _ (less m (n + (1 + prefix_len is_in_line rest)) s s left (omega arith) (omega arith))
    (shrinks_if m s (nat_lt (prefix_len (is_of (white_of s.white (indent_of cs))) (indent_of cs)) (length (indent_of cs))) _ _ tt
    (indent_read m n s _ (omega arith) before refl refl)))

pub margin_shrinks : (s : State) (cs : List ℕ) → 0 < length cs → rank s.mode ≡ 3 → Shrinks (length cs) s (margin s cs)
margin_shrinks s cs left before = margin_by_shrinks (length cs) (gap_len cs) s cs (drop (gap_len cs) cs) left (length-drop (gap_len cs) cs) before

bad_dedent_shrinks : (m : ℕ) (s : State) (f : Front) → Shrinks m s (bad_dedent f)
bad_dedent_shrinks m s (Bad BadChar n) = tt
bad_dedent_shrinks m s _ = tt

-- a smaller column closes a block
blocks_some : (blocks : List ℕ) (column : ℕ) → eqb column (top blocks) ≡ false → nat_lt (top blocks) column ≡ false → 0 < length blocks
blocks_some [] column e f = absurd (grind (arith, nat_tests))
blocks_some (b ∷ bs) column e f = omega arith

dedent_shrinks : (m : ℕ) (s : State) → 0 < m → 0 < length s.blocks → size_by (m - 0) (record s { blocks = drop 1 s.blocks }) < size_by m s
dedent_shrinks m s left some =
    omega (arith, length-drop 1 s.blocks, size_some (m - 0) (record s { blocks = drop 1 s.blocks }) (omega arith), size_some m s left)

inner_shrinks : (m column : ℕ) (s : State) (f : Front) (b d : Bool) → 0 < m → rank s.mode ≡ 2 → nat_lt (top s.blocks) column ≡ b → eqb column (top s.blocks) ≡ false → Shrinks m s (bad_dedent f)
    → Shrinks m s (cond b (Found 0 kinds.Indent values.Nothing (record s { mode = modes.Inside; blocks = column ∷ s.blocks })) (cond d (Found 0 kinds.Dedent values.Nothing (record s { blocks = drop 1 s.blocks })) (bad_dedent f)))
inner_shrinks m column s f true d left before t e h =
    let u : State = record s { mode = modes.Inside; blocks = column ∷ s.blocks } in
    omega (arith, size_some (m - 0) u (omega arith), size_some m s left)
inner_shrinks m column s f false true left before t e h = dedent_shrinks m s left (blocks_some s.blocks column e t)
inner_shrinks m column s f false false left before t e h = h

indentation_by_shrinks : (m column : ℕ) (s : State) (f : Front) (b : Bool) → 0 < m → rank s.mode ≡ 2 → eqb column (top s.blocks) ≡ b → Shrinks m s (bad_dedent f)
    → Shrinks m s (cond b (Passed 0 (record s { mode = modes.Inside })) (cond (nat_lt (top s.blocks) column) (Found 0 kinds.Indent values.Nothing (record s { mode = modes.Inside; blocks = column ∷ s.blocks })) (cond (is_open s.blocks column) (Found 0 kinds.Dedent values.Nothing (record s { blocks = drop 1 s.blocks })) (bad_dedent f))))
indentation_by_shrinks m column s f true left before e h =
    let u : State = record s { mode = modes.Inside } in
    omega (arith, size_some (m - 0) u (omega arith), size_some m s left)
indentation_by_shrinks m column s f false left before e h = inner_shrinks m column s f (nat_lt (top s.blocks) column) (is_open s.blocks column) left before refl e h

pub indentation_shrinks : (m : ℕ) (at : Pos) (s : State) (column c : ℕ) (cs : List ℕ) → 0 < m → rank s.mode ≡ 2 → Shrinks m s (indentation at s column c cs)
indentation_shrinks m at s column c cs left before =
    indentation_by_shrinks m column s (inside at s c cs) (eqb column (top s.blocks)) left before refl (bad_dedent_shrinks m s (inside at s c cs))

-- formatted strings

text_by_some : (n : ℕ) (r : Result (List ℕ) ℕ) → 0 < n → IsSome (text_by n r)
text_by_some n (Err bad) h = tt
text_by_some n (Ok value) h = h

front_some : (n c : ℕ) (cs : List ℕ) → eqb n 0 ≡ false → 0 < length (take n (c ∷ cs))
front_some zero c cs e = absurd (cc)
front_some (suc n) c cs e = omega arith

text_or_field_shrinks : (j n : ℕ) (s : State) (kind : StringKind) (beyond c : ℕ) (body : List ℕ) (b : Bool) → eqb n 0 ≡ b
    → Shrinks (suc j) s (cond b (Found 1 kinds.FieldOpen values.Nothing (record s { mode = modes.Field kind beyond })) (front_of_lexeme (text_of kind (take n (c ∷ body))) s))
text_or_field_shrinks j n s kind beyond c body true e = ahead j 1 s _ (omega arith) (omega arith)
text_or_field_shrinks j n s kind beyond c body false e = shrinks_lexeme j s _ (text_by_some _ (decoded kind (take n (c ∷ body))) (front_some n c body e))

literal_by_shrinks : (j : ℕ) (s : State) (kind : StringKind) (beyond : ℕ) (body : List ℕ) → Shrinks (suc j) s (literal_by s kind beyond body)
literal_by_shrinks j s kind beyond [] = ahead j (quotes_len kind) s _ (omega (arith, quotes_len_some 0 kind)) (omega arith)
literal_by_shrinks j s kind beyond (c ∷ body) = text_or_field_shrinks j (literals.text_len (c ∷ body)) s kind beyond c body (eqb (literals.text_len (c ∷ body)) 0) refl

field_shrinks : (j : ℕ) (at : Pos) (s : State) (kind : StringKind) (beyond c : ℕ) (cs : List ℕ) → Shrinks (suc j) s (field at s kind beyond c cs)
field_shrinks j at s kind beyond c cs = shrinks_if _ s (eqb c 125) _ _ (ahead j 1 s _ (omega arith) (omega arith)) (inside_shrinks j at s c cs)

-- the end of the text

last_block_shrinks : (s : State) (blocks : List ℕ) → length s.blocks ≡ length blocks → Shrinks 0 s (last_block s blocks)
last_block_shrinks s [] e = tt
last_block_shrinks s (column ∷ outer) e = omega arith

last_line_shrinks : (s : State) (mode : Mode) → unended s.mode ≡ unended mode → Shrinks 0 s (last_line s mode)
last_line_shrinks s modes.LineStart e = last_block_shrinks s s.blocks refl
last_line_shrinks s (modes.Indented column) e = omega arith
last_line_shrinks s modes.Inside e = omega arith
last_line_shrinks s (modes.Literal kind beyond) e = omega arith
last_line_shrinks s (modes.Field kind beyond) e = omega arith

finish_shrinks : (s : State) (brackets : List Pos) → Shrinks 0 s (finish s brackets)
finish_shrinks s [] = last_line_shrinks s s.mode refl
finish_shrinks s (at ∷ outer) = tt

piece_by_shrinks : (mode : Mode) (at : Pos) (s : State) (c : ℕ) (cs : List ℕ) → rank s.mode ≡ rank mode → Shrinks (length (c ∷ cs)) s (piece_by mode at s c cs)
piece_by_shrinks modes.LineStart at s c cs e = margin_shrinks s (c ∷ cs) (omega arith) e
piece_by_shrinks (modes.Indented column) at s c cs e = indentation_shrinks (length (c ∷ cs)) at s column c cs (omega arith) e
piece_by_shrinks modes.Inside at s c cs e = inside_shrinks (length cs) at s c cs
piece_by_shrinks (modes.Literal kind beyond) at s c cs e = literal_by_shrinks (length cs) s kind beyond (take (length (c ∷ cs) - beyond) (c ∷ cs))
piece_by_shrinks (modes.Field kind beyond) at s c cs e = field_shrinks (length cs) at s kind beyond c cs

pub piece_shrinks : (at : Pos) (s : State) (cs : List ℕ) → Shrinks (length cs) s (piece at s cs)
piece_shrinks at s [] = finish_shrinks s s.brackets
piece_shrinks at s (c ∷ cs) = piece_by_shrinks s.mode at s c cs refl
