-- A phrase of a grammar has three meanings, and so does each way to make one phrase of others.
use Rattle.std.specs.Prelude.{ℕ, List, Option}
use Rattle.phrases.specs.Spelling.{One, Opener, Nothing, Then, Or, Many, OneOpens, OpenerOpens, ThenOpens, OrOpens, ManyOpens}
use Rattle.phrases.specs.Reading.{Outcome, read_one, read_opener, read_nothing, read_then, read_or, read_many}

-- What the phrase spells, which lists end with the opener of a nesting too many, and what its reader answers.
pub record Phrase (T A : Type 0) : Type 1 where
  pub Spells : List T → A → Type 0
  pub Opens : List T → Type 0
  pub read : List T → Outcome T A

-- a token that kind knows
abbrev pub token : {T A : Type 0} → (T → Option A) → Phrase T A
token kind = record { Spells = One kind; Opens = OneOpens; read = read_one kind }

-- such a token that opens a nesting, with room for so many, one in another
abbrev pub opener : {T A : Type 0} → ℕ → (T → Option A) → Phrase T A
opener room kind = record { Spells = Opener room kind; Opens = OpenerOpens room kind; read = read_opener room kind }

-- no token, with the value n
abbrev pub nothing : {T A : Type 0} → A → Phrase T A
nothing n = record { Spells = Nothing n; Opens = OneOpens; read = read_nothing n }

-- g and then h, which may depend on what g gave; together they give what f makes of the two
abbrev pub sequence : {T A B C : Type 0} → Phrase T A → (A → Phrase T B) → (A → B → C) → Phrase T C
sequence g h f = record {
  Spells = Then g.Spells (λ a. (h a).Spells) f;
  Opens = ThenOpens g.Spells g.Opens (λ a. (h a).Opens);
  read = read_then g.read (λ a. (h a).read) f;
}

-- g, which begins with a token of these kinds, or h
abbrev pub either : {T A : Type 0} → (T → ℕ) → List ℕ → Phrase T A → Phrase T A → Phrase T A
either class first g h = record { Spells = Or g.Spells h.Spells; Opens = OrOpens g.Opens h.Opens; read = read_or class first g.read h.read }

-- g any number of times, where g begins with a token of these kinds
abbrev pub many : {T A : Type 0} → (T → ℕ) → List ℕ → Phrase T A → Phrase T (List A)
many class first g = record { Spells = Many g.Spells; Opens = ManyOpens g.Spells g.Opens; read = read_many class first g.read }
