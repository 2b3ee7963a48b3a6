-- A grammar by the room that is left: so many nestings may be open, one in another. What stands in a nesting has one less.
use Rattle.std.specs.Prelude.{◌≡◌, ℕ, zero, suc, true, cond, List, [], ◌∷◌}
use Rattle.phrases.specs.Sets.{has}
use Rattle.phrases.specs.Reading.{Outcome, Stuck}
use Rattle.phrases.specs.Phrases.{Phrase}
use Rattle.phrases.specs.declared.fault.Fault.TheVariants.{Syntax, TooDeep}

abbrev pub read_never : {T A : Type 0} → (T → ℕ) → List ℕ → List T → Outcome T A
read_never class first [] = Stuck Syntax []
read_never class first (t ∷ ts) = cond (has first (class t)) (Stuck TooDeep (t ∷ ts)) (Stuck Syntax (t ∷ ts))

-- What would stand in a nesting where there is room for none: nothing is spelled. The opener before it stops every reader.
abbrev pub never : {T A : Type 0} → (T → ℕ) → List ℕ → Phrase T A
never {T} class first = record {
  Spells = λ x a. ⊥;
  Opens = λ x. (t : T) × (x ≡ t ∷ []) × (has first (class t) ≡ true);
  read = read_never class first;
}

-- what stands in a nesting of a grammar, where over makes the phrase of a room from it
unfoldable pub nest : {T A : Type 0} → (T → ℕ) → List ℕ → (ℕ → Phrase T A → Phrase T A) → ℕ → Phrase T A
nest class first over zero = never class first
nest class first over (suc room) = over room (nest class first over room)
