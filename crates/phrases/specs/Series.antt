-- A series: items, each in a state. The value of an item tells the state of the next, or that it was the last.
-- So keyword arguments come after positional ones, defaults after plain parameters, and a trailing comma ends a list.
use Rattle.std.specs.Prelude.{◌≡◌, ℕ, zero, suc, cond, List, [], ◌∷◌, ◌++◌, length, Option, Some, None}
use Rattle.phrases.specs.Sets.{starts}
use Rattle.phrases.specs.Reading.{Outcome, Read, after}
use Rattle.phrases.specs.Phrases.{Phrase}

-- what holds of the tokens behind an item: on, in the next state, or over, behind the last
abbrev pub goes : {S : Type 0} → Option S → (S → Type 0) → Type 0 → Type 0
goes None on over = over
goes (Some s) on over = on s

abbrev pub Run : {T A S : Type 0} → (S → List T → A → Type 0) → (S → A → Option S) → S → List T → List A → Type 0
Run P next s x [] = x ≡ []
Run {T} P next s x (a ∷ vs) = (y : List T) × (z : List T) × (x ≡ y ++ z) × P s y a × goes (next s a) (λ t. Run P next t z vs) ((z ≡ []) × (vs ≡ []))

-- behind items of these values the last token of x opens one nesting too many
abbrev pub RunOpens : {T A S : Type 0} → (S → List T → A → Type 0) → (S → List T → Type 0) → (S → A → Option S) → S → List A → List T → Type 0
RunOpens P OP next s [] x = OP s x
RunOpens {T} P OP next s (a ∷ vs) x = (y : List T) × (z : List T) × (x ≡ y ++ z) × P s y a × goes (next s a) (λ t. RunOpens P OP next t vs z) ⊥

abbrev pub SomeRunOpens : {T A S : Type 0} → (S → List T → A → Type 0) → (S → List T → Type 0) → (S → A → Option S) → S → List T → Type 0
SomeRunOpens {T} {A} P OP next s x = (vs : List A) × RunOpens P OP next s vs x

abbrev pub goes_on : {T A S : Type 0} → Option S → (S → List T → Outcome T (List A)) → List T → Outcome T (List A)
goes_on None on y = Read [] y
goes_on (Some s) on y = on s y

-- while the next token begins an item of the state, and no more than n items
abbrev pub read_run_at_most : {T A S : Type 0} → (T → ℕ) → (S → List ℕ) → (S → List T → Outcome T A) → (S → A → Option S) → ℕ → S → List T → Outcome T (List A)
read_run_at_most class first p next zero s ts = Read [] ts
read_run_at_most class first p next (suc n) s ts =
    cond (starts class (first s) ts) (after (p s ts) (λ a y. after (goes_on (next s a) (read_run_at_most class first p next n) y) (λ vs z. Read (a ∷ vs) z))) (Read [] ts)

abbrev pub read_run : {T A S : Type 0} → (T → ℕ) → (S → List ℕ) → (S → List T → Outcome T A) → (S → A → Option S) → S → List T → Outcome T (List A)
read_run class first p next s ts = read_run_at_most class first p next (length ts) s ts

-- items g of each state, from the state s on, where one of the state t begins with a token of the kinds first t
abbrev pub series : {T A S : Type 0} → (T → ℕ) → (S → List ℕ) → (S → Phrase T A) → (S → A → Option S) → S → Phrase T (List A)
series class first g next s = record {
  Spells = Run (λ t. (g t).Spells) next s;
  Opens = SomeRunOpens (λ t. (g t).Spells) (λ t. (g t).Opens) next s;
  read = read_run class first (λ t. (g t).read) next s;
}
