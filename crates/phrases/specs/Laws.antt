-- What ties a reader to the relation that it reads. P is what the phrase spells, O which lists end with the opener of a
-- nesting too many, and r its reader. P+ is the same phrase with room for one nesting more, since where there is no room
-- for one, nothing that has one is spelled, though the tokens before it are the beginning of something.
use Rattle.std.specs.Prelude.{◌≡◌, ℕ, true, List, [], ◌∷◌, ◌++◌, Option, Some, None, ◌⊎◌}
use Rattle.phrases.specs.Sets.{has, ends, Sets}
use Rattle.phrases.specs.Spelling.{Begins}
use Rattle.phrases.specs.Reading.{Outcome, Read, Stuck, rest}
use Rattle.phrases.specs.Phrases.{Phrase}
use Rattle.phrases.specs.declared.fault.Fault.TheVariants.{Syntax, TooDeep}

-- the same outcome, with z left
abbrev pub with_rest : {T A : Type 0} → Outcome T A → List T → Outcome T A
with_rest (Read a y) z = Read a z
with_rest (Stuck f y) z = Stuck f z

-- the next token of y opens one nesting too many, after x
abbrev pub Cut : {T : Type 0} → (List T → Type 0) → List T → List T → Type 0
Cut {T} O x y = (t : T) × (w : List T) × (y ≡ t ∷ w) × O (x ++ t ∷ [])

-- what an outcome says of the tokens x that were taken
abbrev pub Said : {T A : Type 0} → (P P+ : List T → A → Type 0) → (O : List T → Type 0) → Outcome T A → List T → Type 0
Said P P+ O (Read a y) x = P x a
Said P P+ O (Stuck Syntax y) x = Begins P+ x
Said P P+ O (Stuck TooDeep y) x = Begins P+ x × Cut O x y

-- where reading stops at a token that does not fit, it stops there too if the text ends there
abbrev pub Dry : {T A : Type 0} → (List T → Outcome T A) → Outcome T A → List T → Type 0
Dry r (Read a y) x = Unit {0}
Dry r (Stuck Syntax y) x = r x ≡ Stuck Syntax []
Dry r (Stuck TooDeep y) x = Unit {0}

-- The outcome o on ts is true of the part that was taken, and depends on no more than that and the next token.
pub record Front {T A : Type 0} (P P+ : List T → A → Type 0) (O : List T → Type 0) (r : List T → Outcome T A) (ts : List T) (o : Outcome T A) : Type 0 where
  pub taken : List T
  pub split : ts ≡ taken ++ rest o
  pub said : Said P P+ O o taken
  pub local : (t : T) (w z : List T) → rest o ≡ t ∷ w → r (taken ++ t ∷ z) ≡ with_rest o (t ∷ z)
  pub dry : Dry r o taken

-- whatever follows x, the reader stops at its last token, which opens a nesting too many
pub record Opened {T A : Type 0} (r : List T → Outcome T A) (x : List T) : Type 0 where
  pub before : List T
  pub opener : T
  pub split : x ≡ before ++ opener ∷ []
  pub is_deep : (y : List T) → r (before ++ opener ∷ y) ≡ Stuck TooDeep (opener ∷ y)

pub record Lawful {T A : Type 0} (class : T → ℕ) (P P+ : List T → A → Type 0) (O : List T → Type 0) (r : List T → Outcome T A) (s : Sets) : Type 0 where
  -- of every list the reader takes a part of which its outcome is true
  pub front : (ts : List T) → Front P P+ O r ts (r ts)
  -- what is spelled is read, if the next token does not go on with it
  pub again : (x : List T) (a : A) (y : List T) → P x a → ends class s.more y ≡ true → r (x ++ y) ≡ Read a y
  -- what opens a nesting too many is answered so
  pub deep : (x : List T) → O x → Opened r x
  -- with more room as much is spelled
  pub wider : (x : List T) (a : A) → P x a → P+ x a
  pub some : (x : List T) × (a : A) × P+ x a
  -- the sets are right
  pub begins : (t : T) (x : List T) (a : A) → P+ (t ∷ x) a → has s.first (class t) ≡ true
  pub empty : (a : A) → P+ [] a → s.nullable ≡ true
  pub opens : (t : T) (x : List T) → O (t ∷ x) → has s.first (class t) ≡ true
  -- a token that may begin the phrase is not the fault
  pub accepts : (t : T) (y : List T) → has s.first (class t) ≡ true → r (t ∷ y) ≡ Stuck Syntax (t ∷ y) → ⊥

abbrev pub IsDeep : {T A : Type 0} → Outcome T A → Type 0
IsDeep (Read a y) = ⊥
IsDeep (Stuck Syntax y) = ⊥
IsDeep (Stuck TooDeep y) = Unit {0}

abbrev pub ReadOrDeep : {T A : Type 0} → Outcome T A → A → List T → Type 0
ReadOrDeep o a y = (o ≡ Read a y) ⊎ IsDeep o

-- What P spells is read by r, or stops at a nesting too many. This relates what is spelled with any room to a reader that has some.
pub record Wide {T A : Type 0} (class : T → ℕ) (P : List T → A → Type 0) (r : List T → Outcome T A) (s : Sets) : Type 0 where
  pub wide : (x : List T) (a : A) (y : List T) → P x a → ends class s.more y ≡ true → ReadOrDeep (r (x ++ y)) a y
  pub begins : (t : T) (x : List T) (a : A) → P (t ∷ x) a → has s.first (class t) ≡ true
  pub empty : (a : A) → P [] a → s.nullable ≡ true

-- g is lawful, where g+ is g with room for one nesting more, and k is g with any room
pub record Laws {T A : Type 0} (class : T → ℕ) (g g+ k : Phrase T A) (s : Sets) : Type 0 where
  pub law : Lawful class g.Spells g+.Spells g.Opens g.read s
  pub wide : Wide class k.Spells g.read s

-- kind knows the tokens of these codes, of which there is one, and no others
pub record Kind {T A : Type 0} (class : T → ℕ) (kind : T → Option A) (codes : List ℕ) : Type 0 where
  pub knows : (t : T) (a : A) → kind t ≡ Some a → has codes (class t) ≡ true
  pub only : (t : T) → has codes (class t) ≡ true → kind t ≡ None → ⊥
  pub sample : T
  pub value : A
  pub is_one : kind sample ≡ Some value
