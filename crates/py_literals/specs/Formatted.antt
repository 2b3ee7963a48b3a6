-- The body of a formatted string literal of the form that is read here (Python Language Reference, 2.4.3):
-- text and replacement fields that are bare expressions, all on one line.
use Rattle.std.specs.Prelude.{◌+◌, ◌==◌, ◌||◌, ◌&&◌, ℕ, Bool, true, false, not, List, [], ◌∷◌, if◌then◌else◌}
use Rattle.std.specs.List.{prefix_len, list_all}
use Rattle.py_literals.specs.declared.text.StringKind.{StringKind}
use Rattle.py_literals.specs.Text.{is_quote}

abbrev pub is_brace : ℕ → Bool
is_brace c = (c == 123) || (c == 125)

-- the brace c stands twice
abbrev pub is_doubled : ℕ → List ℕ → Bool
is_doubled c [] = false
is_doubled c (d ∷ ds) = is_brace c && (d == c)

-- a doubled brace stands at the front
unfoldable pub begins_doubled : List ℕ → Bool
begins_doubled [] = false
begins_doubled (c ∷ cs) = is_doubled c cs

-- c may stand in a field: no quote, brace, backslash, '!', ':', '#' and no line end
abbrev pub is_field_char : ℕ → Bool
is_field_char c = not (is_quote c || (is_brace c || ((c == 92) || ((c == 33) || ((c == 58) || ((c == 35) || (c == 10)))))))

-- the characters are text with each brace doubled, and fields between single braces; `inside` a field they end it first
abbrev pub is_formed : Bool → List ℕ → Bool
is_formed inside [] = not inside
is_formed true (c ∷ cs) = if c == 125 then is_formed false cs else (is_field_char c && is_formed true cs)
is_formed false (c ∷ []) = not (is_brace c)
is_formed false (c ∷ d ∷ ds) =
    if is_doubled c (d ∷ ds) then is_formed false ds else (not (c == 125) && is_formed (c == 123) (d ∷ ds))

-- the characters hold no line end
abbrev pub is_one_line : List ℕ → Bool
is_one_line cs = list_all (λ c. not (c == 10)) cs

-- the body of a formatted string of this kind has the form
abbrev pub has_form : StringKind → List ℕ → Bool
has_form k body = not k.raw && (is_one_line body && is_formed false body)

-- how many characters of text stand before the next field or the end
abbrev pub text_len : List ℕ → ℕ
text_len [] = 0
text_len (c ∷ []) = if c == 123 then 0 else 1
text_len (c ∷ d ∷ ds) = if is_doubled c (d ∷ ds) then 2 + text_len ds else (if c == 123 then 0 else 1 + text_len (d ∷ ds))

-- how many characters stand in a field, behind its '{'
abbrev pub field_len : List ℕ → ℕ
field_len cs = prefix_len is_field_char cs
