-- What a list of tokens spells, for each way to put phrases together, and which lists end with the opener of a nesting too many.
-- A relation P tells what a phrase spells: P x a, the tokens x spell the value a. O x says that the last token of x opens one nesting too many.
use Rattle.std.specs.Prelude.{◌≡◌, ℕ, zero, suc, List, [], ◌∷◌, ◌++◌, Option, Some, ◌⊎◌}

-- ---- what is spelled

-- a single token, which kind knows
pub record One {T A : Type 0} (kind : T → Option A) (x : List T) (a : A) : Type 0 where
  pub token : T
  pub alone : x ≡ token ∷ []
  pub is : kind token ≡ Some a

-- a single token that opens a nesting, with room for so many more
abbrev pub Opener : {T A : Type 0} → ℕ → (T → Option A) → List T → A → Type 0
Opener zero kind x a = ⊥
Opener (suc room) kind x a = One kind x a

-- no token
abbrev pub Nothing : {T A : Type 0} → A → List T → A → Type 0
Nothing n x a = (x ≡ []) × (a ≡ n)

-- two phrases in a row, the second of which may depend on the first's value
pub record Then {T A B C : Type 0} (P : List T → A → Type 0) (Q : A → List T → B → Type 0) (f : A → B → C) (x : List T) (c : C) : Type 0 where
  pub front : List T
  pub back : List T
  pub one : A
  pub two : B
  pub split : x ≡ front ++ back
  pub first : P front one
  pub second : Q one back two
  pub value : c ≡ f one two

-- one of two phrases
abbrev pub Or : {T A : Type 0} → (P Q : List T → A → Type 0) → List T → A → Type 0
Or P Q x a = P x a ⊎ Q x a

-- a phrase again and again, or not at all
abbrev pub Many : {T A : Type 0} → (P : List T → A → Type 0) → List T → List A → Type 0
Many {T} P x [] = x ≡ []
Many {T} P x (a ∷ vs) = (y : List T) × (z : List T) × (x ≡ y ++ z) × P y a × Many P z vs

-- some spelled list begins with x
abbrev pub Begins : {T A : Type 0} → (P : List T → A → Type 0) → List T → Type 0
Begins {T} {A} P x = (z : List T) × (a : A) × P (x ++ z) a

-- ---- where a nesting too many is opened

-- no plain token and no empty list opens any
abbrev pub OneOpens : {T : Type 0} → List T → Type 0
OneOpens x = ⊥

-- an opener does, where there is no room
abbrev pub OpenerOpens : {T A : Type 0} → ℕ → (T → Option A) → List T → Type 0
OpenerOpens {T} {A} zero kind x = (a : A) × One kind x a
OpenerOpens (suc room) kind x = ⊥

-- behind a whole first phrase
pub record SecondOpens {T A : Type 0} (P : List T → A → Type 0) (OQ : A → List T → Type 0) (x : List T) : Type 0 where
  pub front : List T
  pub back : List T
  pub one : A
  pub split : x ≡ front ++ back
  pub first : P front one
  pub second : OQ one back

abbrev pub ThenOpens : {T A : Type 0} → (P : List T → A → Type 0) → (OP : List T → Type 0) → (OQ : A → List T → Type 0) → List T → Type 0
ThenOpens P OP OQ x = OP x ⊎ SecondOpens P OQ x

abbrev pub OrOpens : {T : Type 0} → (OP OQ : List T → Type 0) → List T → Type 0
OrOpens OP OQ x = OP x ⊎ OQ x

-- behind any number of whole phrases
abbrev pub ManyOpens : {T A : Type 0} → (P : List T → A → Type 0) → (OP : List T → Type 0) → List T → Type 0
ManyOpens {T} {A} P OP x = (y : List T) × (z : List T) × (vs : List A) × (x ≡ y ++ z) × Many P y vs × OP z
