-- What stands at the front of a text, where no formatted string is open, is a gap or a token, the longest possible.
use Rattle.std.proofs.Common.{◌≡◌, ℕ, suc, ◌+◌, ◌-◌, ◌≤◌, Bool, true, false, cond, eqb, nat_lt, List, [], ◌∷◌, length, take, drop, Option, Some, None, Result, Ok, Err, inl, inr, refl, sym, subst, encode_utf8_all, length-take-le, arith}
use Rattle.std.specs.List.{prefix_len}
use Rattle.std.proofs.lemmas.Bool.{eqb-true}
use Rattle.rv_names.specs.Identifier.{is_identifier_start}
use Rattle.py_literals.specs.declared.place.Pos.{Pos}
use Rattle.py_literals.specs.declared.text.Opening.{Opening}
use Rattle.py_literals.specs.Text.{opening, body_len}
use Rattle.py_literals.specs.Escape.{decoded}
use Rattle.py_literals.specs.Formatted.{has_form}
use Rattle.py_literals.proofs.Bodies.{first_end}
use Rattle.py_lexer.specs.declared.chars.Class.{Class}
use Rattle.py_lexer.specs.declared.chars.Class.TheVariants.{White, LineEnd, Comment, Backslash, Quote, Digit, Dot, Letter, Sign}
use Rattle.py_lexer.specs.declared.operators.Operator.{Operator}
use Rattle.py_lexer.specs.declared.token.Kind.{Kind}
use Rattle.py_lexer.specs.declared.token.Kind.TheVariants as kinds
use Rattle.py_lexer.specs.declared.token.Value.{Value}
use Rattle.py_lexer.specs.declared.token.Value.TheVariants as values
use Rattle.py_lexer.specs.declared.token.LexKind.TheVariants.{BadChar, FStringForm}
use Rattle.py_lexer.specs.declared.state.Mode.{Mode}
use Rattle.py_lexer.specs.declared.state.Mode.TheVariants as modes
use Rattle.py_lexer.specs.declared.state.State.{State}
use Rattle.py_lexer.specs.Chars.{class_of, is_white, is_line_end, is_in_line, is_quote, is_digit}
use Rattle.py_lexer.specs.Stack.{top}
use Rattle.py_lexer.specs.Front.{Front, Found, Passed, Bad, front_of_lexeme}
use Rattle.py_lexer.specs.Operators.{longest_operator}
use Rattle.py_lexer.specs.Words.{next_is, number, word}
use Rattle.py_lexer.specs.Strings.{quotes_len, quotes_at, unformatted_by, unformatted, formatted, string_by, string_at, string_or_word_at}
use Rattle.py_lexer.specs.Inside.{line_end, join, operator_by, operator, inside_by, inside}
use Rattle.py_lexer.specs.Margin.{gap_len, indent_of, white_of, is_of, margin_by, margin, is_open, bad_dedent, indentation}
use Rattle.py_lexer.specs.Pieces.{last_block, last_line, finish}
use Rattle.py_lexer.specs.Layout as layout
use Rattle.py_lexer.specs.Layout.{IsGap, none, white, Words, Numbers, Strings, Others, Spells, newline, last_newline, indent, dedent, formatted_text, field_open, field_close, formatted_end, IsStringOf, HasNoLonger, quotes_of}
use Rattle.py_lexer.proofs.WordLemmas.{front_passes}
use Rattle.py_lexer.proofs.Gaps.{gap_more, gap_white, gap_comment, gap_join, gap_front}
use Rattle.py_lexer.proofs.Fits.{Fits, Lies, lies_if, LexemeLies, lexeme_if, lies_lexeme, word_lies, number_lies, OperatorFits, OperatorsFit, operators_fit, operator_found}
use Rattle.py_lexer.proofs.StringFits.{opens_in, string_front, string_short}
use Rattle.py_lexer.proofs.NoLonger.{Says, class_says, BeginsString, word_no_longer, digits_no_longer, point_no_longer, lone_point_no_longer, sign_no_longer, string_no_longer}

-- what a character's class says of it
abbrev pub Means : Class → ℕ → Type 0
Means White c = is_white c ≡ true
Means LineEnd c = c ≡ 10
Means Comment c = c ≡ 35
Means Backslash c = c ≡ 92
Means Quote c = is_quote c ≡ true
Means Digit c = Unit {0}
Means Dot c = Unit {0}
Means Letter c = is_identifier_start c ≡ true
Means Sign c = Unit {0}

means_if : (c : ℕ) (b : Bool) (x y : Class) → (b ≡ true → Means x c) → Means y c → Means (cond b x y) c
means_if c true x y h k = h refl
means_if c false x y h k = k

pub class_means : (c : ℕ) → Means (class_of c) c
class_means c =
    means_if c (is_white c) White _ (λ t. t)
    (means_if c (is_line_end c) LineEnd _ (λ t. eqb-true c 10 t)
    (means_if c (eqb c 35) Comment _ (λ t. eqb-true c 35 t)
    (means_if c (eqb c 92) Backslash _ (λ t. eqb-true c 92 t)
    (means_if c (is_quote c) Quote _ (λ t. t)
    (means_if c (is_digit c) Digit _ (λ t. tt)
    (means_if c (eqb c 46) Dot _ (λ t. tt)
    (means_if c (is_identifier_start c) Letter Sign (λ t. t) tt)))))))

-- a part that no class chooses among
pub other : (k : Kind) (cs : List ℕ) (n : ℕ) → n ≤ length cs → Spells (drop n cs) Others k values.Nothing (take n cs) → Fits k values.Nothing cs n
other k cs n w h = record { class = Others; spelled = h; short = w; longest = tt }

-- strings

string_spelled : (cs : List ℕ) (o : Opening) (m : ℕ) (k : Kind) → opening cs ≡ Some o → body_len o.kind (drop o.len cs) ≡ Some m → (n : ℕ) → n ≡ o.len + (m + quotes_len o.kind)
    → (v : Value) → Spells (drop (o.len + (m + quotes_len o.kind)) cs) Strings k v (take (o.len + (m + quotes_len o.kind)) cs) → HasNoLonger cs (o.len + (m + quotes_len o.kind)) → Fits k v cs n
string_spelled cs o m k e f n same v h l =
    let whole : Fits k v cs (o.len + (m + quotes_len o.kind)) = record { class = Strings; spelled = h; short = string_short cs o m e f; longest = l } in
    subst (λ (x : ℕ). Fits k v cs x) (sym same) whole

unformatted_lies : (cs : List ℕ) (o : Opening) (m : ℕ) (r : Result (List ℕ) ℕ) → opening cs ≡ Some o → body_len o.kind (drop o.len cs) ≡ Some m → o.kind.formatted ≡ false → decoded o.kind (take m (drop o.len cs)) ≡ r → HasNoLonger cs (o.len + (m + quotes_len o.kind))
    → LexemeLies cs (unformatted_by o (length (take m (drop o.len cs))) r)
unformatted_lies cs o m (Err bad) e f p g l = tt
unformatted_lies cs o m (Ok value) e f p g l =
    let rest = drop o.len cs in
    let within = ((first_end o.kind rest).some m f).within in
    let len : length (take m rest) ≡ m = length-take-le m rest within in
    let same : o.len + length (take m rest) + quotes_len o.kind ≡ o.len + (m + quotes_len o.kind) = omega arith in
    let is = string_front cs o m e f in
    lexeme_if cs o.kind.bytes _ _
    (λ t. string_spelled cs o m kinds.Bytes e f _ same values.Nothing (layout.bytes is p t g) l)
    (λ t. string_spelled cs o m kinds.Text e f _ same (values.Text (encode_utf8_all value)) (layout.string is p t g) l)

string_by_lies : (s : State) (c : ℕ) (ds : List ℕ) (o : Opening) (n : Option ℕ) → BeginsString c → opening (c ∷ ds) ≡ Some o → body_len o.kind (drop o.len (c ∷ ds)) ≡ n
    → Lies (c ∷ ds) (string_by s o (drop o.len (c ∷ ds)) n)
string_by_lies s c ds o None b e f = tt
string_by_lies s c ds o (Some m) b e f =
    let cs : List ℕ = c ∷ ds in
    let rest = drop o.len cs in
    let h = opens_in cs o e in
    lies_if cs o.kind.formatted (formatted s o (take m rest) (length rest - m)) (front_of_lexeme (unformatted o (take m rest)) s)
    (λ t. lies_if cs (has_form o.kind (take m rest)) (Found o.len kinds.FStringStart values.Nothing (record s { mode = modes.Literal o.kind (length rest - m) })) (Bad FStringForm (quotes_at o))
    (λ u. other kinds.FStringStart cs o.len h.short (layout.formatted (h.fronts o.len (omega arith)) t (length-take-le o.len cs h.short)))
    (λ u. tt))
    (λ t. lies_lexeme cs s (unformatted o (take m rest)) (unformatted_lies cs o m (decoded o.kind (take m rest)) e f t refl (string_no_longer c ds o m b e f)))

string_at_lies : (s : State) (c : ℕ) (cs : List ℕ) (o : Option Opening) → is_quote c ≡ true → opening (c ∷ cs) ≡ o → Lies (c ∷ cs) (string_at s (c ∷ cs) o)
string_at_lies s c cs None t e = tt
string_at_lies s c cs (Some o) t e = string_by_lies s c cs o (body_len o.kind (drop o.len (c ∷ cs))) (inl t) e refl

string_or_word_lies : (s : State) (c : ℕ) (cs : List ℕ) (o : Option Opening) → Says Letter c → opening (c ∷ cs) ≡ o → Lies (c ∷ cs) (string_or_word_at s (c ∷ cs) o)
string_or_word_lies s c cs None h e = lies_lexeme (c ∷ cs) s (word (c ∷ cs)) (word_lies c cs h.0 (word_no_longer c cs h e))
string_or_word_lies s c cs (Some o) h e = string_by_lies s c cs o (body_len o.kind (drop o.len (c ∷ cs))) (inr h) e refl

-- inside a line

line_end_lies : (s : State) (c : ℕ) (cs : List ℕ) (brackets : List Pos) → c ≡ 10 → Lies (c ∷ cs) (line_end s brackets)
line_end_lies s c cs [] e = other kinds.Newline (c ∷ cs) 1 (omega arith) (rw e newline)
line_end_lies s c cs (at ∷ outer) e = rw e (layout.line_end none)

join_lies : (s : State) (c : ℕ) (cs : List ℕ) → c ≡ 92 → Lies (c ∷ cs) (join s cs)
join_lies s c [] e = tt
join_lies s c (d ∷ ds) e =
    lies_if (c ∷ d ∷ ds) (is_line_end d) (Passed 2 s) (Bad BadChar 0) (λ t. gap_join c d [] ds e (eqb-true d 10 t) none) (λ t. tt)

white_lies : (s : State) (c : ℕ) (cs : List ℕ) → is_white c ≡ true → Lies (c ∷ cs) (Passed (1 + prefix_len is_white cs) s)
white_lies s c cs t =
    let n = prefix_len is_white cs in
    let m : 1 + prefix_len is_white cs ≡ suc (prefix_len is_white cs) = omega arith in
    rw m (white t (gap_white (take n cs) (drop n cs) (front_passes is_white cs)))

operator_lies : (at : Pos) (s : State) (c : ℕ) (cs : List ℕ) (o : Option Operator) → OperatorsFit (c ∷ cs) o → ((p : Operator) → OperatorFits (c ∷ cs) p → HasNoLonger (c ∷ cs) p.len) → Lies (c ∷ cs) (operator_by at s c o)
operator_lies at s c cs None h l = tt
operator_lies at s c cs (Some o) h l = operator_found (c ∷ cs) o h (l o h)

inside_by_lies : (class : Class) (at : Pos) (s : State) (c : ℕ) (cs : List ℕ) → Means class c → Says class c → Lies (c ∷ cs) (inside_by class at s c cs)
inside_by_lies White at s c cs h g = white_lies s c cs h
inside_by_lies LineEnd at s c cs h g = line_end_lies s c cs s.brackets h
inside_by_lies Comment at s c cs h g = gap_comment c cs h
inside_by_lies Backslash at s c cs h g = join_lies s c cs h
inside_by_lies Quote at s c cs h g = string_at_lies s c cs (opening (c ∷ cs)) g refl
inside_by_lies Digit at s c cs h g = lies_lexeme (c ∷ cs) s (number (c ∷ cs)) (number_lies (c ∷ cs) (λ some. digits_no_longer c cs g))
inside_by_lies Dot at s c cs h g =
    lies_if (c ∷ cs) (next_is is_digit cs) (front_of_lexeme (number (c ∷ cs)) s) (operator at s c cs)
    (λ t. lies_lexeme (c ∷ cs) s (number (c ∷ cs)) (number_lies (c ∷ cs) (point_no_longer c cs g t)))
    (λ t. operator_lies at s c cs (longest_operator (c ∷ cs)) (operators_fit (c ∷ cs)) (λ p f. lone_point_no_longer c cs p g t f))
inside_by_lies Letter at s c cs h g = string_or_word_lies s c cs (opening (c ∷ cs)) g refl
inside_by_lies Sign at s c cs h g = operator_lies at s c cs (longest_operator (c ∷ cs)) (operators_fit (c ∷ cs)) (λ p f. sign_no_longer c cs p g f)

pub inside_lies : (at : Pos) (s : State) (c : ℕ) (cs : List ℕ) → Lies (c ∷ cs) (inside at s c cs)
inside_lies at s c cs = inside_by_lies (class_of c) at s c cs (class_means c) (class_says c)

-- where a logical line begins

one_more : (c : ℕ) (rest : List ℕ) → eqb c 10 ≡ true → IsGap (drop 1 (c ∷ rest)) (take 1 (c ∷ rest))
one_more c rest t = let e = eqb-true c 10 t in rw e (layout.line_end none)

margin_by_lies : (s : State) (n : ℕ) (cs rest : List ℕ) → drop n cs ≡ rest → IsGap (drop n cs) (take n cs) → Lies cs (margin_by s n cs rest)
margin_by_lies s n cs [] e h = h
margin_by_lies s n cs (c ∷ rest) e h =
    let P : ℕ → List ℕ → Type 0 = λ m v. IsGap (drop m v) (take m v) in
    lies_if cs (is_line_end c) _ _ (λ t. gap_more cs n 1 h (subst (P 1) (sym e) (one_more c rest t)))
    (λ t. lies_if cs (eqb c 35) _ _
    (λ u. gap_more cs n (1 + prefix_len is_in_line rest) h (subst (P (1 + prefix_len is_in_line rest)) (sym e) (gap_comment c rest (eqb-true c 35 u))))
    (λ u. lies_if cs (nat_lt (prefix_len (is_of (white_of s.white (indent_of cs))) (indent_of cs)) (length (indent_of cs))) _ _ (λ w. tt) (λ w. h)))

pub margin_lies : (s : State) (cs : List ℕ) → Lies cs (margin s cs)
margin_lies s cs = margin_by_lies s (gap_len cs) cs (drop (gap_len cs) cs) refl (gap_front cs)

bad_dedent_lies : (cs : List ℕ) (f : Front) → Lies cs (bad_dedent f)
bad_dedent_lies cs (Bad BadChar n) = tt
bad_dedent_lies cs _ = tt

pub indentation_lies : (at : Pos) (s : State) (column c : ℕ) (cs : List ℕ) → Lies (c ∷ cs) (indentation at s column c cs)
indentation_lies at s column c cs =
    lies_if (c ∷ cs) (eqb column (top s.blocks)) _ _ (λ t. none)
    (λ t. lies_if (c ∷ cs) (nat_lt (top s.blocks) column) _ _ (λ u. other kinds.Indent (c ∷ cs) 0 (omega arith) indent)
    (λ u. lies_if (c ∷ cs) (is_open s.blocks column) _ _ (λ w. other kinds.Dedent (c ∷ cs) 0 (omega arith) dedent)
    (λ w. bad_dedent_lies (c ∷ cs) (inside at s c cs))))

-- the end of the text

last_block_lies : (s : State) (blocks : List ℕ) → Lies [] (last_block s blocks)
last_block_lies s [] = refl
last_block_lies s (column ∷ outer) = other kinds.Dedent [] 0 (omega arith) dedent

last_line_lies : (s : State) (mode : Mode) → Lies [] (last_line s mode)
last_line_lies s modes.LineStart = last_block_lies s s.blocks
last_line_lies s _ = other kinds.Newline [] 0 (omega arith) (last_newline refl)

pub finish_lies : (s : State) (brackets : List Pos) → Lies [] (finish s brackets)
finish_lies s [] = last_line_lies s s.mode
finish_lies s (at ∷ outer) = tt
