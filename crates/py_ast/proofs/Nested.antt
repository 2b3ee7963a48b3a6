-- Phrases that nest in one another are lawful at every depth, if each layer keeps the laws.
use Rattle.std.proofs.Common.{◌≡◌, ℕ, zero, suc, true, false, List, [], ◌∷◌, refl}
use Rattle.phrases.specs.Laws.{Laws}
use Rattle.phrases.specs.Nesting.{never}
use Rattle.phrases.specs.Phrases.{Phrase}
use Rattle.phrases.specs.Sets.{has, Sets}
use Rattle.phrases.proofs.Nested.{Start, never_laws}
use Rattle.py_ast.specs.Nested.{nest_shapes}

-- with no room nothing is spelled, so any reader reads it
no-room : {T A : Type 0} {class : T → ℕ} (first : List ℕ) {s : Sets} {g g+ k : Phrase T A} → Laws class g g+ k s → Laws class g g+ (never class first) s
no-room first l = record { law = l.law; wide = record { wide = λ x a y h e. absurd h; begins = λ t x a h. absurd h; empty = λ a h. absurd h } }

-- The layers may hold phrases of another grammar, whose room r stays the same while they nest.
module _ {T A S : Type 0} (class : T → ℕ) (first : S → List ℕ) (more : S → List ℕ) (over : ℕ → ℕ → (S → Phrase T A) → S → Phrase T A) where
  abbrev sets : S → Sets
  sets s = record { first = first s; more = more s; nullable = false }

  abbrev inside : ℕ → ℕ → S → Phrase T A
  inside r n = nest_shapes class first (over r) n

  module _ (sample : S → T) (known : (s : S) → has (first s) (class (sample s)) ≡ true)
      (some : (r room : ℕ) (g : S → Phrase T A) (s : S) → (x : List T) × (a : A) × (over r room g s).Spells x a)
      (layer : (r m room n : ℕ) (i i+ k : S → Phrase T A) → ((s : S) → Laws class (i s) (i+ s) (k s) (sets s)) → (s : S) → Laws class (over r room i s) (over (suc r) (suc room) i+ s) (over m n k s) (sets s)) where
    -- any phrases of which something is known
    abbrev none : S → Phrase T A
    none s = never class (first s)

    abbrev one : A → S → Phrase T A
    one a s = record { Spells = λ x b. (x ≡ sample s ∷ []) × (b ≡ a); Opens = λ x. ⊥; read = (none s).read }

    one-start : (a : A) (s : S) → Start class (sets s) refl (one a s)
    one-start a s = record { begins = λ t x b h. let same : t ≡ sample s = cc (h.0) in rw same (known s); empty = λ b h. absurd (cc (h.0)) }

    starts-inside : (r n : ℕ) (s : S) → Start class (sets s) refl (inside r n s)
    unfolding nest_shapes
    starts-inside r zero s = record { begins = λ t x a h. absurd h; empty = λ a h. absurd h }
    starts-inside r (suc n) s =
        let (x, a, h) = some 0 0 none s in
        let l = layer 0 r 0 n none (one a) (inside r n) (λ u. never_laws class (sets u) refl (one a u) (inside r n u) (sample u ∷ [], a, (refl, refl)) (one-start a u) (starts-inside r n u)) s in
        record { begins = l.wide.begins; empty = l.wide.empty }

    some-inside : (r n : ℕ) (s : S) → (x : List T) × (a : A) × (inside r (suc n) s).Spells x a
    unfolding nest_shapes
    some-inside r n s = some r n (inside r n) s

    -- what stands in a nesting is lawful, whatever the rooms
    pub nest-laws : (r m room n : ℕ) (s : S) → Laws class (inside r room s) (inside (suc r) (suc room) s) (inside m n s) (sets s)
    unfolding nest_shapes
    nest-laws r m zero n s = never_laws class (sets s) refl (inside (suc r) 1 s) (inside m n s) (some-inside (suc r) 0 s) (starts-inside (suc r) 1 s) (starts-inside m n s)
    nest-laws r m (suc room) zero s = no-room (first s) (layer r m room 0 (inside r room) (inside (suc r) (suc room)) none (nest-laws r m room 0) s)
    nest-laws r m (suc room) (suc n) s = layer r m room n (inside r room) (inside (suc r) (suc room)) (inside m n) (nest-laws r m room n) s
