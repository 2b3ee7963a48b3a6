-- What functions over slices answer, against readers on lists.
use Rattle.std.specs.Prelude.{◌≡◌, ℕ, ◌<◌, Bool, List, ◌++◌, length, Option, Some, None, cond, Result, Ok, Err, IfOk}
use Rattle.std.specs.Borrow.{Bor}
use Rattle.phrases.specs.Sets.{has, starts}
use Rattle.phrases.specs.Reading.{Outcome, Read, Stuck, after}
use Rattle.phrases.specs.declared.fault.Stop.{Stop}
use Rattle.phrases.specs.declared.fault.Stop.TheVariants.{Memory, Fault}

-- a fault is the reader's, at its place; where memory ran out nothing is said
abbrev pub Fails : {T A : Type 0} → Stop T → Outcome T A → Type 0
Fails Memory out = Unit {0}
Fails (Fault f tokens) out = out ≡ Stuck f tokens.now

-- What a function returned is the outcome of a reader, seen by view, unless memory ran out.
abbrev pub Gives : {T X A : Type 0} → (X → Outcome T A) → Result X (Stop T) → Outcome T A → Type 0
Gives view (Ok x) out = out ≡ view x
Gives view (Err e) out = Fails e out

-- an answer says of a token whether its kind is one of these
abbrev pub Tells : {T : Type 0} → (T → Bool → Type 0) → (T → ℕ) → List ℕ → Type 0
Tells {T} says class first = (t : T) (b : Bool) → says t b → b ≡ has first (class t)

-- where a value comes, a token at least was taken
abbrev pub Takes : {T X : Type 0} → (Bor (List T) → Result (X × Bor (List T)) (Stop T) → Type 0) → Type 0
Takes {T} {X} answers = (ts : Bor (List T)) (r : Result (X × Bor (List T)) (Stop T)) → answers ts r → IfOk r (λ x. length x.1.now < length ts.now)

-- the answers are those of the reader
abbrev pub Reads : {T A : Type 0} → (Bor (List T) → Result (A × Bor (List T)) (Stop T) → Type 0) → (List T → Outcome T A) → Type 0
Reads {T} {A} answers reader = (ts : Bor (List T)) (r : Result (A × Bor (List T)) (Stop T)) → answers ts r → Gives (λ x. Read x.0 x.1.now) r (reader ts.now)

-- an answer says of a state and a token whether the token begins an item of the state
abbrev pub TellsIn : {T S : Type 0} → (S → T → Bool → Type 0) → (T → ℕ) → (S → List ℕ) → Type 0
TellsIn {T} {S} says class first = (s : S) → Tells (says s) class (first s)

-- and tell the state of the next item
abbrev pub ReadsNext : {T A S : Type 0} → (Bor (List T) → Result ((A × Option S) × Bor (List T)) (Stop T) → Type 0) → (List T → Outcome T A) → (A → Option S) → Type 0
ReadsNext {T} {A} {S} answers reader next = (ts : Bor (List T)) (r : Result ((A × Option S) × Bor (List T)) (Stop T)) → answers ts r
    → Gives (λ x. Read x.0.0 x.1.now) r (reader ts.now) × IfOk r (λ x. x.0.1 ≡ next x.0.0)

-- the same outcome, with values that were read before
abbrev pub with_front : {T A : Type 0} → List A → Outcome T (List A) → Outcome T (List A)
with_front vs out = after out (λ us z. Read (vs ++ us) z)

-- the state of an item that begins here, if one does
abbrev pub opening : {T S : Type 0} → (T → ℕ) → (S → List ℕ) → Option S → List T → Option S
opening class first None ts = None
opening class first (Some s) ts = cond (starts class (first s) ts) (Some s) None
