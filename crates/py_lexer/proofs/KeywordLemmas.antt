-- The one keyword that characters may be is told by their number and their ends.
use Rattle.std.proofs.Common.{◌≡◌, ℕ, Bool, true, false, cond, ◌&&◌, ◌==◌, List, Option, Some, None, IfSome, is_some, encode_utf8_all, true≢false, refl, sym, ap, ◌∙◌}
use Rattle.std.proofs.lemmas.Str.{encodes_same}
use Rattle.std.specs.Prelude.{codes, length, slice_index}
use Rattle.std.specs.Str.{bytes_eq}
use Rattle.std.specs.Cmp.Lexicographic.{bytes_decides}
use Rattle.py_lexer.specs.declared.token.Kind.{Kind}
use Rattle.py_lexer.specs.declared.token.Kind.TheVariants as kinds
use Rattle.py_lexer.specs.Spellings.{is_spelled}
use Rattle.py_lexer.specs.Keywords.{keyword_of, if_spelled, keyword_like, two_letters, three_letters, four_letters, five_letters, six_letters, seven_letters, eight_letters}
use Rattle.py_lexer.proofs.SpellingLemmas.{spelled_bytes}

-- the answer is right where it is a keyword
IsRight : List ℕ → Option Kind → Type 0
IsRight text found = IfSome found (λ k. keyword_of (encode_utf8_all text) ≡ Some k)

right_by : (text word : List ℕ) (k : Kind) (b : Bool) → is_spelled text word ≡ b → keyword_of word ≡ Some k → IsRight text (cond b (Some k) None)
unfolding IsRight
right_by text word k true e is = ap keyword_of (spelled_bytes text word e) ∙ is
right_by text word k false e is = tt

right : (text word : List ℕ) (k : Kind) → keyword_of word ≡ Some k → IsRight text (if_spelled text word k)
right text word k is = right_by text word k (is_spelled text word) refl is

none_right : (text : List ℕ) → IsRight text None
unfolding IsRight
none_right text = tt

either : (text : List ℕ) (b : Bool) (x y : Option Kind) → IsRight text x → IsRight text y → IsRight text (cond b x y)
either text true x y p q = p
either text false x y p q = q

two_right : (text : List ℕ) (first last : ℕ) → IsRight text (two_letters text first last)
two_right text first last =
    either text ((first == 97) && (last == 115)) _ _ (right text (codes "as") kinds.As refl) (
    either text ((first == 105) && (last == 102)) _ _ (right text (codes "if") kinds.If refl) (
    either text ((first == 105) && (last == 110)) _ _ (right text (codes "in") kinds.In refl) (
    either text ((first == 105) && (last == 115)) _ _ (right text (codes "is") kinds.Is refl) (
    either text ((first == 111) && (last == 114)) _ _ (right text (codes "or") kinds.Or refl) (
    none_right text)))))

three_right : (text : List ℕ) (first last : ℕ) → IsRight text (three_letters text first last)
three_right text first last =
    either text ((first == 97) && (last == 100)) _ _ (right text (codes "and") kinds.And refl) (
    either text ((first == 100) && (last == 102)) _ _ (right text (codes "def") kinds.Def refl) (
    either text ((first == 100) && (last == 108)) _ _ (right text (codes "del") kinds.Del refl) (
    either text ((first == 102) && (last == 114)) _ _ (right text (codes "for") kinds.For refl) (
    either text ((first == 110) && (last == 116)) _ _ (right text (codes "not") kinds.Not refl) (
    either text ((first == 116) && (last == 121)) _ _ (right text (codes "try") kinds.Try refl) (
    none_right text))))))

four_right : (text : List ℕ) (first last : ℕ) → IsRight text (four_letters text first last)
four_right text first last =
    either text ((first == 78) && (last == 101)) _ _ (right text (codes "None") kinds.None refl) (
    either text ((first == 84) && (last == 101)) _ _ (right text (codes "True") kinds.True refl) (
    either text ((first == 101) && (last == 102)) _ _ (right text (codes "elif") kinds.Elif refl) (
    either text ((first == 101) && (last == 101)) _ _ (right text (codes "else") kinds.Else refl) (
    either text ((first == 102) && (last == 109)) _ _ (right text (codes "from") kinds.From refl) (
    either text ((first == 112) && (last == 115)) _ _ (right text (codes "pass") kinds.Pass refl) (
    either text ((first == 119) && (last == 104)) _ _ (right text (codes "with") kinds.With refl) (
    none_right text)))))))

five_right : (text : List ℕ) (first last : ℕ) → IsRight text (five_letters text first last)
five_right text first last =
    either text ((first == 70) && (last == 101)) _ _ (right text (codes "False") kinds.False refl) (
    either text ((first == 97) && (last == 99)) _ _ (right text (codes "async") kinds.Async refl) (
    either text ((first == 97) && (last == 116)) _ _ (right text (codes "await") kinds.Await refl) (
    either text ((first == 98) && (last == 107)) _ _ (right text (codes "break") kinds.Break refl) (
    either text ((first == 99) && (last == 115)) _ _ (right text (codes "class") kinds.Class refl) (
    either text ((first == 114) && (last == 101)) _ _ (right text (codes "raise") kinds.Raise refl) (
    either text ((first == 119) && (last == 101)) _ _ (right text (codes "while") kinds.While refl) (
    either text ((first == 121) && (last == 100)) _ _ (right text (codes "yield") kinds.Yield refl) (
    none_right text))))))))

six_right : (text : List ℕ) (first last : ℕ) → IsRight text (six_letters text first last)
six_right text first last =
    either text ((first == 97) && (last == 116)) _ _ (right text (codes "assert") kinds.Assert refl) (
    either text ((first == 101) && (last == 116)) _ _ (right text (codes "except") kinds.Except refl) (
    either text ((first == 103) && (last == 108)) _ _ (right text (codes "global") kinds.Global refl) (
    either text ((first == 105) && (last == 116)) _ _ (right text (codes "import") kinds.Import refl) (
    either text ((first == 108) && (last == 97)) _ _ (right text (codes "lambda") kinds.Lambda refl) (
    either text ((first == 114) && (last == 110)) _ _ (right text (codes "return") kinds.Return refl) (
    none_right text))))))

seven_right : (text : List ℕ) (first last : ℕ) → IsRight text (seven_letters text first last)
seven_right text first last =
    either text ((first == 102) && (last == 121)) _ _ (right text (codes "finally") kinds.Finally refl) (
    none_right text)

eight_right : (text : List ℕ) (first last : ℕ) → IsRight text (eight_letters text first last)
eight_right text first last =
    either text ((first == 99) && (last == 101)) _ _ (right text (codes "continue") kinds.Continue refl) (
    either text ((first == 110) && (last == 108)) _ _ (right text (codes "nonlocal") kinds.Nonlocal refl) (
    none_right text))

found_right : (text : List ℕ) → IsRight text (keyword_like text)
found_right text =
    let first = slice_index text 0 in
    either text (length text == 2) _ _ (two_right text first (slice_index text 1)) (
    either text (length text == 3) _ _ (three_right text first (slice_index text 2)) (
    either text (length text == 4) _ _ (four_right text first (slice_index text 3)) (
    either text (length text == 5) _ _ (five_right text first (slice_index text 4)) (
    either text (length text == 6) _ _ (six_right text first (slice_index text 5)) (
    either text (length text == 7) _ _ (seven_right text first (slice_index text 6)) (
    either text (length text == 8) _ _ (eight_right text first (slice_index text 7)) (
    none_right text)))))))

none_unless : (b : Bool) (k : Kind) (other : Option Kind) → (b ≡ true → ⊥) → other ≡ None → cond b (Some k) other ≡ None
none_unless true k other refused e = absurd (refused refl)
none_unless false k other refused e = e

some_is : (k : Kind) → Some k ≡ None → ⊥
some_is k e = true≢false (ap is_some e)

-- characters with no keyword like them are no keyword
another : (text word : List ℕ) (k : Kind) → keyword_like text ≡ None → is_spelled word word ≡ true → keyword_like word ≡ Some k → bytes_eq (encode_utf8_all text) word ≡ true → ⊥
another text word k none ascii found same =
    let e : text ≡ word = encodes_same text word ((bytes_decides (encode_utf8_all text) word).0 same ∙ sym (spelled_bytes word word ascii)) in
    some_is k (sym found ∙ ap keyword_like (sym e) ∙ none)

no_keyword : (text : List ℕ) → keyword_like text ≡ None → keyword_of (encode_utf8_all text) ≡ None
no_keyword text none =
    none_unless _ _ _ (another text (codes "False") kinds.False none refl refl) (
    none_unless _ _ _ (another text (codes "None") kinds.None none refl refl) (
    none_unless _ _ _ (another text (codes "True") kinds.True none refl refl) (
    none_unless _ _ _ (another text (codes "and") kinds.And none refl refl) (
    none_unless _ _ _ (another text (codes "as") kinds.As none refl refl) (
    none_unless _ _ _ (another text (codes "assert") kinds.Assert none refl refl) (
    none_unless _ _ _ (another text (codes "async") kinds.Async none refl refl) (
    none_unless _ _ _ (another text (codes "await") kinds.Await none refl refl) (
    none_unless _ _ _ (another text (codes "break") kinds.Break none refl refl) (
    none_unless _ _ _ (another text (codes "class") kinds.Class none refl refl) (
    none_unless _ _ _ (another text (codes "continue") kinds.Continue none refl refl) (
    none_unless _ _ _ (another text (codes "def") kinds.Def none refl refl) (
    none_unless _ _ _ (another text (codes "del") kinds.Del none refl refl) (
    none_unless _ _ _ (another text (codes "elif") kinds.Elif none refl refl) (
    none_unless _ _ _ (another text (codes "else") kinds.Else none refl refl) (
    none_unless _ _ _ (another text (codes "except") kinds.Except none refl refl) (
    none_unless _ _ _ (another text (codes "finally") kinds.Finally none refl refl) (
    none_unless _ _ _ (another text (codes "for") kinds.For none refl refl) (
    none_unless _ _ _ (another text (codes "from") kinds.From none refl refl) (
    none_unless _ _ _ (another text (codes "global") kinds.Global none refl refl) (
    none_unless _ _ _ (another text (codes "if") kinds.If none refl refl) (
    none_unless _ _ _ (another text (codes "import") kinds.Import none refl refl) (
    none_unless _ _ _ (another text (codes "in") kinds.In none refl refl) (
    none_unless _ _ _ (another text (codes "is") kinds.Is none refl refl) (
    none_unless _ _ _ (another text (codes "lambda") kinds.Lambda none refl refl) (
    none_unless _ _ _ (another text (codes "nonlocal") kinds.Nonlocal none refl refl) (
    none_unless _ _ _ (another text (codes "not") kinds.Not none refl refl) (
    none_unless _ _ _ (another text (codes "or") kinds.Or none refl refl) (
    none_unless _ _ _ (another text (codes "pass") kinds.Pass none refl refl) (
    none_unless _ _ _ (another text (codes "raise") kinds.Raise none refl refl) (
    none_unless _ _ _ (another text (codes "return") kinds.Return none refl refl) (
    none_unless _ _ _ (another text (codes "try") kinds.Try none refl refl) (
    none_unless _ _ _ (another text (codes "while") kinds.While none refl refl) (
    none_unless _ _ _ (another text (codes "with") kinds.With none refl refl) (
    none_unless _ _ _ (another text (codes "yield") kinds.Yield none refl refl) (
    refl)))))))))))))))))))))))))))))))))))

found_by : (text : List ℕ) (found : Option Kind) → keyword_like text ≡ found → IsRight text found → found ≡ keyword_of (encode_utf8_all text)
unfolding IsRight
found_by text (Some k) e r = sym r
found_by text None e r = sym (no_keyword text e)

pub keyword_found : (text : List ℕ) → keyword_like text ≡ keyword_of (encode_utf8_all text)
keyword_found text = found_by text (keyword_like text) refl (found_right text)
