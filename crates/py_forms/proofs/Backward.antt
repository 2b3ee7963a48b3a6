-- Runs from their end on back.
use Rattle.std.proofs.Common.{◌≡◌, List, [], ◌∷◌, ◌++◌, length, refl, arith}
use Rattle.std.proofs.lemmas.List.{reverse-append, map-append, length-map, length-reverse}
use Rattle.py_lexer.specs.declared.token.Token.{Token}
use Rattle.py_forms.specs.Roles.{role_of, roles_of, back_of}

pub back_of_none : (tokens : List Token) → length tokens ≡ 0 → back_of tokens ≡ []
unfolding back_of
back_of_none [] e = refl
back_of_none (t ∷ ts) e = absurd (omega arith)

pub back_of_split : (tokens front : List Token) (last : Token) → tokens ≡ front ++ last ∷ [] → back_of tokens ≡ role_of last ∷ back_of front
unfolding back_of
back_of_split tokens front last e = rw (e, map-append, reverse-append) refl

pub length_back_of : (tokens : List Token) → length (back_of tokens) ≡ length tokens
unfolding back_of
length_back_of tokens = simp (length-reverse, length-map)

pub roles_of_none : (tokens : List Token) → length tokens ≡ 0 → roles_of tokens ≡ []
unfolding roles_of
roles_of_none [] e = refl
roles_of_none (t ∷ ts) e = absurd (omega arith)

pub roles_of_split : (tokens rest : List Token) (first : Token) → tokens ≡ first ∷ rest → roles_of tokens ≡ role_of first ∷ roles_of rest
unfolding roles_of
roles_of_split tokens rest first e = rw e refl
