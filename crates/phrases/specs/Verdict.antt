-- What an answer on a list of tokens means, for phrases g of each room: one that is spelled, or the place of a fault.
use Rattle.std.specs.Prelude.{◌≡◌, ℕ, List, [], ◌∷◌, ◌++◌}
use Rattle.phrases.specs.Phrases.{Phrase}
use Rattle.phrases.specs.Reading.{Outcome, Read, Stuck}
use Rattle.phrases.specs.declared.fault.Fault.TheVariants.{Syntax, TooDeep}

-- x spells a, however deep it nests
abbrev pub Spelled : {T A : Type 0} → (ℕ → Phrase T A) → List T → A → Type 0
Spelled g x a = (n : ℕ) × (g n).Spells x a

-- some spelled list begins with x
abbrev pub Viable : {T A : Type 0} → (ℕ → Phrase T A) → List T → Type 0
Viable {T} {A} g x = (z : List T) × (a : A) × Spelled g (x ++ z) a

-- no spelled list begins with x and the next token of y
abbrev pub EndsAt : {T A : Type 0} → (ℕ → Phrase T A) → List T → List T → Type 0
EndsAt {A = A} g x [] = Unit {0}
EndsAt g x (t ∷ y) = Viable g (x ++ t ∷ []) → ⊥

-- no part from the front opens a nesting too many
abbrev pub IsShallow : {T A : Type 0} → Phrase T A → List T → Type 0
IsShallow {T} g ts = (u v : List T) → ts ≡ u ++ v → g.Opens u → ⊥

-- the longest run that some spelled list begins with spells a, and y is left
pub record Longest {T A : Type 0} (g : ℕ → Phrase T A) (room : ℕ) (ts : List T) (a : A) (y : List T) : Type 0 where
  pub run : List T
  pub split : ts ≡ run ++ y
  pub spelled : (g room).Spells run a
  pub ends : EndsAt g run y
  pub shallow : IsShallow (g room) ts

-- the longest run that some spelled list begins with is not itself spelled, and y is left
pub record StopsAt {T A : Type 0} (g : ℕ → Phrase T A) (room : ℕ) (ts : List T) (y : List T) : Type 0 where
  pub run : List T
  pub split : ts ≡ run ++ y
  pub viable : Viable g run
  pub unspelled : (a : A) → Spelled g run a → ⊥
  pub ends : EndsAt g run y
  pub shallow : IsShallow (g room) ts

-- the first token of y opens a nesting too many, and some spelled list begins with what is before it
pub record TooDeepAt {T A : Type 0} (g : ℕ → Phrase T A) (room : ℕ) (ts : List T) (y : List T) : Type 0 where
  pub run : List T
  pub opener : T
  pub others : List T
  pub split : ts ≡ run ++ y
  pub first : y ≡ opener ∷ others
  pub viable : Viable g run
  pub opens : (g room).Opens (run ++ opener ∷ [])

abbrev pub Means : {T A : Type 0} → (ℕ → Phrase T A) → ℕ → List T → Outcome T A → Type 0
Means g room ts (Read a y) = Longest g room ts a y
Means g room ts (Stuck Syntax y) = StopsAt g room ts y
Means g room ts (Stuck TooDeep y) = TooDeepAt g room ts y
