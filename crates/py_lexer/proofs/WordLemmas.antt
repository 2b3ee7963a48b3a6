-- Words: their characters, their bytes, and their normal form.
use Rattle.std.proofs.Common.{◌≡◌, ℕ, suc, ◌+◌, ◌<◌, Bool, true, false, cond, List, [], ◌∷◌, ◌++◌, length, take, drop, get_or, drop-cons, add-one, append_assoc, None, encode_utf8_all, encode_utf8, chars, refl, sym, subst, ◌∙◌, arith}
use Rattle.std.specs.List.{prefix_len, list_all}
use Rattle.std.specs.Str.{IsUtf8}
use Rattle.std.proofs.lemmas.Str.{chars_from_encodes}
use Rattle.unicode_normalization.specs.Forms.{is_in_form, Nfkc}
use Rattle.unicode_normalization.proofs.FormsLemmas.{is_in_form-true, is_in_form_from}
use Rattle.rv_names.specs.Identifier.{IsIdentifier, is_spelled_as_identifier, is_identifier_start, is_identifier_continue}
use Rattle.py_lexer.specs.declared.piece.Lexeme.TheVariants.{Spelled, Refused}
use Rattle.py_lexer.specs.declared.token.Kind.TheVariants as kinds
use Rattle.py_lexer.specs.declared.token.Value.TheVariants as values
use Rattle.py_lexer.specs.declared.token.LexKind.TheVariants.{NotNormal}
use Rattle.py_lexer.specs.Words.{word_by}

-- an identifier in NFKC
pub name_here : (text name : List ℕ) → IsIdentifier text → name ≡ encode_utf8_all text → Spelled (length text) kinds.Name (values.Name name) ≡ word_by (length text) text None
name_here text name identifier is =
    let t : is_in_form Nfkc text ≡ true = is_in_form_from Nfkc text identifier.normal in
    rw (t, is) refl

pub name_read : (text spelled name : List ℕ) → IsUtf8 spelled → spelled ≡ encode_utf8_all text → IsIdentifier (chars spelled) → name ≡ spelled → Spelled (length text) kinds.Name (values.Name name) ≡ word_by (length text) text None
name_read text spelled name utf8 same identifier is =
    let e = chars_from_encodes text spelled utf8 (sym same) in
    name_here text name (let P : List ℕ → Type 0 = λ v. IsIdentifier v in subst P (sym e) identifier) (is ∙ same)

not_normal : (text : List ℕ) (b : Bool) → is_in_form Nfkc text ≡ b → (IsIdentifier text → ⊥) → is_spelled_as_identifier text ≡ true → Refused NotNormal 0 ≡ cond b (Spelled (length text) kinds.Name (values.Name (encode_utf8_all text))) (Refused NotNormal 0)
not_normal text true t refused spelled = absurd (refused (record { spelled = spelled; normal = is_in_form-true Nfkc text t }))
not_normal text false t refused spelled = refl

pub name_refused : (text spelled : List ℕ) → IsUtf8 spelled → spelled ≡ encode_utf8_all text → (IsIdentifier (chars spelled) → ⊥) → is_spelled_as_identifier text ≡ true → Refused NotNormal 0 ≡ word_by (length text) text None
name_refused text spelled utf8 same refused is =
    let e = chars_from_encodes text spelled utf8 (sym same) in
    not_normal text (is_in_form Nfkc text) refl (λ i. refused (let P : List ℕ → Type 0 = λ v. IsIdentifier v in subst P e i)) is

-- a front whose characters pass
front_passes_by : (p : ℕ → Bool) (x : ℕ) (xs : List ℕ) (b : Bool) → p x ≡ b → list_all p (take (prefix_len p xs) xs) ≡ true → list_all p (take (cond b (1 + prefix_len p xs) 0) (x ∷ xs)) ≡ true
front_passes_by p x xs true e h = let m : 1 + prefix_len p xs ≡ suc (prefix_len p xs) = omega arith in rw (m, e) h
front_passes_by p x xs false e h = refl

pub front_passes : (p : ℕ → Bool) (xs : List ℕ) → list_all p (take (prefix_len p xs) xs) ≡ true
front_passes p [] = refl
front_passes p (x ∷ xs) = front_passes_by p x xs (p x) refl (front_passes p xs)

-- one more character in UTF-8
pub text_turn : (before cs : List ℕ) (i : ℕ) → i < length cs → (before ++ encode_utf8 (get_or cs i 0)) ++ encode_utf8_all (drop (i + 1) cs) ≡ before ++ encode_utf8_all (drop i cs)
text_turn before cs i h = rw (add-one, drop-cons cs i 0, append_assoc) refl

pub spelled_front : (first n : ℕ) (rest chars text : List ℕ) → chars ≡ first ∷ rest → n ≡ prefix_len is_identifier_continue rest → text ≡ take (1 + n) chars → is_identifier_start first ≡ true → is_spelled_as_identifier text ≡ true
spelled_front first n rest chars text parts len e start =
    let m : 1 + n ≡ suc n = omega arith in
    rw (e, m, parts, len, start) (front_passes is_identifier_continue rest)
