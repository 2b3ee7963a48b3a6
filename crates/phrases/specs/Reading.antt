-- Readers, which go over a list of tokens once, with one token of lookahead: the value and what is left, or a fault and the tokens from its place on.
use Rattle.std.specs.Prelude.{ℕ, zero, suc, cond, List, [], ◌∷◌, length, Option, Some, None}
use Rattle.phrases.specs.Sets.{starts}
use Rattle.phrases.specs.declared.fault.Fault.{Fault}
use Rattle.phrases.specs.declared.fault.Fault.TheVariants.{Syntax, TooDeep}

pub data Outcome (T A : Type 0) : Type 0 where
  Read : A → List T → Outcome T A
  Stuck : Fault → List T → Outcome T A

-- the tokens that are not taken
abbrev pub rest : {T A : Type 0} → Outcome T A → List T
rest (Read a y) = y
rest (Stuck f y) = y

-- where all went well, on with the value and what is left
abbrev pub after : {T A B : Type 0} → Outcome T A → (A → List T → Outcome T B) → Outcome T B
after (Read a y) k = k a y
after (Stuck f y) k = Stuck f y

abbrev pub read_token : {T A : Type 0} → Option A → T → List T → Outcome T A
read_token (Some a) t ts = Read a ts
read_token None t ts = Stuck Syntax (t ∷ ts)

abbrev pub read_one : {T A : Type 0} → (T → Option A) → List T → Outcome T A
read_one kind [] = Stuck Syntax []
read_one kind (t ∷ ts) = read_token (kind t) t ts

abbrev pub deep_token : {T A : Type 0} → Option A → T → List T → Outcome T A
deep_token (Some a) t ts = Stuck TooDeep (t ∷ ts)
deep_token None t ts = Stuck Syntax (t ∷ ts)

abbrev pub read_opener : {T A : Type 0} → ℕ → (T → Option A) → List T → Outcome T A
read_opener zero kind [] = Stuck Syntax []
read_opener zero kind (t ∷ ts) = deep_token (kind t) t ts
read_opener (suc room) kind ts = read_one kind ts

abbrev pub read_nothing : {T A : Type 0} → A → List T → Outcome T A
read_nothing n ts = Read n ts

abbrev pub read_then : {T A B C : Type 0} → (List T → Outcome T A) → (A → List T → Outcome T B) → (A → B → C) → List T → Outcome T C
read_then p q f ts = after (p ts) (λ a y. after (q a y) (λ b z. Read (f a b) z))

-- the next token decides: p where it is of these kinds, and q where not
abbrev pub read_or : {T A : Type 0} → (T → ℕ) → List ℕ → (p q : List T → Outcome T A) → List T → Outcome T A
read_or class s p q ts = cond (starts class s ts) (p ts) (q ts)

-- while the next token is of these kinds, and no more than n times
abbrev pub read_at_most : {T A : Type 0} → (T → ℕ) → List ℕ → (List T → Outcome T A) → ℕ → List T → Outcome T (List A)
read_at_most class s p zero ts = Read [] ts
read_at_most class s p (suc n) ts = cond (starts class s ts) (after (p ts) (λ a y. after (read_at_most class s p n y) (λ vs z. Read (a ∷ vs) z))) (Read [] ts)

-- A phrase takes a token at least, so there are no more phrases than tokens.
abbrev pub read_many : {T A : Type 0} → (T → ℕ) → List ℕ → (List T → Outcome T A) → List T → Outcome T (List A)
read_many class s p ts = read_at_most class s p (length ts) ts
