-- Phrases that nest in one another, by the room that is left: so many nestings may be open, one in another.
use Rattle.std.specs.Prelude.{ℕ, zero, suc, List}
use Rattle.phrases.specs.Nesting.{never}
use Rattle.phrases.specs.Phrases.{Phrase}

-- what stands in a nesting of each shape, where over makes the phrases of a room from those of the nestings in it
unfoldable pub nest_shapes : {T A S : Type 0} → (T → ℕ) → (S → List ℕ) → (ℕ → (S → Phrase T A) → S → Phrase T A) → ℕ → S → Phrase T A
nest_shapes class first over zero s = never class (first s)
nest_shapes class first over (suc room) s = over room (nest_shapes class first over room) s
