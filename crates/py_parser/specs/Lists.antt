-- Lists to which what is read is added.
use Rattle.std.specs.Prelude.{List, ◌++◌, Result}
use Rattle.std.specs.Borrow.{Bor}
use Rattle.std.specs.List.{flat_map}
use Rattle.phrases.specs.Reading.{Outcome, Read, after}
use Rattle.phrases.specs.Loops.{Gives, with_front}
use Rattle.phrases.specs.declared.fault.Stop.{Stop}

-- the answers are the items of the list that was passed, and then those of the reader
abbrev pub Adds : {V T A : Type 0} → (V → List A) → (V → Bor (List T) → Result (V × Bor (List T)) (Stop T) → Type 0) → (List T → Outcome T (List A)) → Type 0
Adds {V} {T} items answers reader = (all : V) (ts : Bor (List T)) (r : Result (V × Bor (List T)) (Stop T)) → answers all ts r
    → Gives (λ x. Read (items x.0) x.1.now) r (with_front (items all) (reader ts.now))

-- the same outcome, with the items of all lists, one list after the other, behind those that stood before
abbrev pub with_all : {T A : Type 0} → List A → Outcome T (List (List A)) → Outcome T (List A)
with_all before out = after out (λ lists z. Read (before ++ flat_map (λ l. l) lists) z)
