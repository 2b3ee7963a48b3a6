-- Lists in which some items come last: parameters with a default, arguments with a keyword.
use Rattle.std.specs.Prelude.{◌≡◌, Bool, true, false, List, [], ◌∷◌, ◌++◌}

-- each has it, or has it not
abbrev pub Each : {A : Type 0} → (A → Bool) → Bool → List A → Type 0
Each has b [] = Unit {0}
Each has b (a ∷ items) = (has a ≡ b) × Each has b items

-- those that have it are behind those that don't
pub record AreLast {A : Type 0} (has : A → Bool) (items : List A) : Type 0 where
  pub before : List A
  pub last : List A
  pub all : items ≡ before ++ last
  pub without : Each has false before
  pub having : Each has true last
