-- Kinds of tokens, from the end of a run on back.
use Rattle.std.proofs.Common.{◌≡◌, List, [], ◌∷◌, ◌++◌, length, refl, arith}
use Rattle.std.proofs.lemmas.List.{reverse-append, map-append}
use Rattle.py_lexer.specs.declared.token.Token.{Token}
use Rattle.py_forms.specs.Parts.{kinds_back}

pub kinds_back_none : (tokens : List Token) → length tokens ≡ 0 → kinds_back tokens ≡ []
unfolding kinds_back
kinds_back_none [] e = refl
kinds_back_none (t ∷ ts) e = absurd (omega arith)

pub kinds_back_split : (tokens front : List Token) (last : Token) → tokens ≡ front ++ last ∷ [] → kinds_back tokens ≡ last.kind ∷ kinds_back front
unfolding kinds_back
kinds_back_split tokens front last e = rw (e, map-append, reverse-append) refl
