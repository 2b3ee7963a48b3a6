-- A small grammar over bytes, by which the tests show how a grammar is put together and read.
--   call: NAME ["(" argument* ")"]         NAME: "f", "g" or "x"
--   argument: [KEYWORD] call [","]          KEYWORD: "k" or "l"
-- Behind an argument with a keyword all have one, and behind one with no comma there is none. A call's value is how many arguments it has.
use Rattle.std.specs.Prelude.{ℕ, Bool, true, false, cond, List, [], ◌∷◌, ◌++◌, length, Option, Some, None}
use Rattle.phrases.specs.Sets.{has, Sets}
use Rattle.phrases.specs.Phrases.{Phrase, token, opener, nothing, sequence, either}
use Rattle.phrases.specs.Series.{series}
use Rattle.phrases.specs.Nesting.{nest}

abbrev pub names : List ℕ
names = 102 ∷ 103 ∷ 120 ∷ []

abbrev pub keywords : List ℕ
keywords = 107 ∷ 108 ∷ []

-- a byte is of its own kind
abbrev pub class : ℕ → ℕ
class t = t

abbrev pub one_of : List ℕ → ℕ → Option ℕ
one_of codes t = cond (has codes t) (Some t) None

unfoldable pub comma : Phrase ℕ Bool
comma = either class (44 ∷ []) (sequence (token (one_of (44 ∷ []))) (λ m. nothing true) (λ m c. c)) (nothing false)

unfoldable pub with_keyword : Phrase ℕ ℕ → Phrase ℕ (Bool × ℕ)
with_keyword call = sequence (token (one_of keywords)) (λ k. call) (λ k c. (true, c))

-- whether it has a keyword, as it must in the state true, and how many arguments its call has
unfoldable pub argument : Phrase ℕ ℕ → Bool → Phrase ℕ (Bool × ℕ)
argument call false = either class keywords (with_keyword call) (sequence call (λ c. nothing c) (λ c n. (false, c)))
argument call true = with_keyword call

-- and the state of the next
unfoldable pub item : Phrase ℕ ℕ → Bool → Phrase ℕ (ℕ × Option Bool)
item call s = sequence (argument call s) (λ a. comma) (λ a c. (a.1, cond c (Some a.0) None))

abbrev pub item_first : Bool → List ℕ
item_first false = keywords ++ names
item_first true = keywords

abbrev pub item_next : Bool → ℕ × Option Bool → Option Bool
item_next s a = a.1

unfoldable pub items : Phrase ℕ ℕ → Phrase ℕ (List (ℕ × Option Bool))
items call = series class item_first (item call) item_next false

unfoldable pub arguments : ℕ → Phrase ℕ ℕ → Phrase ℕ ℕ
arguments room call = sequence (sequence (opener room (one_of (40 ∷ []))) (λ m. items call) (λ m is. length is)) (λ c. token (one_of (41 ∷ []))) (λ c m. c)

unfoldable pub call_over : ℕ → Phrase ℕ ℕ → Phrase ℕ ℕ
call_over room call = sequence (token (one_of names)) (λ n. either class (40 ∷ []) (arguments room call) (nothing 0)) (λ n c. c)

-- a call in so many nestings
abbrev pub inner : ℕ → Phrase ℕ ℕ
inner room = nest class names call_over room

-- a call with room for so many
unfoldable pub call : ℕ → Phrase ℕ ℕ
call room = call_over room (inner room)

abbrev pub call_sets : Sets
call_sets = record { first = names; more = 40 ∷ []; nullable = false }
