-- What the calls of this crate answer.
use Rattle.std.specs.Prelude.{◌≡◌, Option, Some, None, Result, Ok, Err, option_and_then}
use Rattle.cut_form.specs.declared.refusal.Refusal.{Refusal}
use Rattle.cut_form.specs.declared.refusal.Refusal.TheVariants as refusals

infixl 10 ◌>>=◌
abbrev pub ◌>>=◌ : {A B : Type 0} → Option A → (A → Option B) → Option B
o >>= f = option_and_then f o

-- a refusal comes where there is no value; where memory ran out nothing is said
abbrev pub Refuses : {A : Type 0} → Refusal → Option A → Type 0
Refuses refusals.Memory value = Unit {0}
Refuses refusals.NotCut value = value ≡ None

-- what a function returned is the value, seen by view, unless memory ran out
abbrev pub Gives : {X A : Type 0} → (X → A) → Result X Refusal → Option A → Type 0
Gives view (Ok x) value = value ≡ Some (view x)
Gives view (Err e) value = Refuses e value
