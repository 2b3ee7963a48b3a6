-- Where the line begins that a run ends in.
use Rattle.std.proofs.Common.{◌≡◌, true, false, List, [], ◌∷◌, ◌++◌, length, refl, arith}
use Rattle.std.proofs.lemmas.List.{reverse-append, map-append, length-map, length-reverse}
use Rattle.py_lexer.specs.declared.token.Kind.{Kind}
use Rattle.py_lexer.specs.declared.token.Token.{Token}
use Rattle.py_forms.specs.Parts.{kinds_back}
use Rattle.later_forms.specs.Later.{line_begin}
use Rattle.later_forms.specs.Subjects.{ends_line}

pub kinds_back_none : (tokens : List Token) → length tokens ≡ 0 → kinds_back tokens ≡ []
unfolding kinds_back
kinds_back_none [] e = refl
kinds_back_none (t ∷ ts) e = absurd (omega arith)

pub kinds_back_split : (tokens front : List Token) (last : Token) → tokens ≡ front ++ last ∷ [] → kinds_back tokens ≡ last.kind ∷ kinds_back front
unfolding kinds_back
kinds_back_split tokens front last e = rw (e, map-append, reverse-append) refl

pub length_kinds_back : (tokens : List Token) → length (kinds_back tokens) ≡ length tokens
unfolding kinds_back
length_kinds_back tokens = simp (length-reverse, length-map)

pub line_begin_none : line_begin [] ≡ 0
unfolding line_begin
line_begin_none = refl

pub line_begin_here : (kind : Kind) (back : List Kind) → ends_line kind ≡ true → line_begin (kind ∷ back) ≡ length (kind ∷ back)
unfolding line_begin
line_begin_here kind back e = rw (e, line_begin) refl

pub line_begin_before : (kind : Kind) (back : List Kind) → ends_line kind ≡ false → line_begin (kind ∷ back) ≡ line_begin back
unfolding line_begin
line_begin_before kind back e = rw (e, line_begin) refl
