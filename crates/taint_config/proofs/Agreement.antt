-- Reading answers the first of the faults, or else what is said.
use Rattle.std.proofs.Common.{◌≡◌, Bool, true, false, List, [], ◌∷◌, ◌++◌, Option, Some, None, Result, Ok, Err, refl, sym, subst, append_assoc}
use Rattle.std.specs.Option.{ok_or}
use Rattle.std.proofs.lemmas.List.{append-nil}
use Rattle.serde_json.specs.Data.{Data, Members}
use Rattle.serde_json.specs.Find.{as_str}
use Rattle.rv_names.specs.Keys.{Bytes}
use Rattle.taint_config.specs.declared.faults.ConfigError.TheVariants.{WrongType}
use Rattle.taint_config.specs.declared.faults.ConfigError.{ConfigError}
use Rattle.taint_config.specs.Faults.{faults_or, fault_if, text_faults, each_after, first_fault}
use Rattle.taint_config.specs.Reading.{◌>>=◌, check, comment_in, fold_read}

-- what was read has no faults and meets P, or the first of the faults is told
abbrev pub Agrees : {A : Type 0} → Result A ConfigError → List ConfigError → (A → Type 0) → Type 0
Agrees (Ok x) faults P = (faults ≡ []) × P x
Agrees (Err e) faults P = first_fault faults ≡ Some e

first_of_more : (faults more : List ConfigError) (e : ConfigError) → first_fault faults ≡ Some e → first_fault (faults ++ more) ≡ Some e
first_of_more [] more e h = absurd cc
first_of_more (f ∷ faults) more e h = h

pub agrees_ok : {A : Type 0} (r : Result A ConfigError) (x : A) (faults : List ConfigError) (P : A → Type 0) → Agrees r faults P → r ≡ Ok x → (faults ≡ []) × P x
agrees_ok r x faults P h e = let Q : Result _ ConfigError → Type 0 = λ r. Agrees r faults P in subst Q e h

pub agrees_err : {A : Type 0} (r : Result A ConfigError) (e : ConfigError) (faults : List ConfigError) (P : A → Type 0) → Agrees r faults P → r ≡ Err e → first_fault faults ≡ Some e
agrees_err r x faults P h e = let Q : Result _ ConfigError → Type 0 = λ r. Agrees r faults P in subst Q e h

-- one thing after the other
pub agrees_then : {A B : Type 0} (r : Result A ConfigError) (k : A → Result B ConfigError) (faults more : List ConfigError) (P : A → Type 0) (Q : B → Type 0)
    → Agrees r faults P → ((x : A) → r ≡ Ok x → P x → Agrees (k x) more Q) → Agrees (r >>= k) (faults ++ more) Q
agrees_then (Ok x) k faults more P Q h next =
    let R : List ConfigError → Type 0 = λ fs. Agrees (k x) (fs ++ more) Q in
    subst R (sym h.0) (next x refl h.1)
agrees_then (Err e) k faults more P Q h next = first_of_more faults more e h

-- the same, with what is known of the result put in other words
pub agrees_as : {A : Type 0} (r : Result A ConfigError) (faults : List ConfigError) (P Q : A → Type 0) → Agrees r faults P → ((x : A) → r ≡ Ok x → P x → Q x) → Agrees r faults Q
agrees_as (Ok x) faults P Q h to = (h.0, to x refl h.1)
agrees_as (Err e) faults P Q h to = h

-- a value that may be missing or of another type
pub agrees_or : {A B : Type 0} (o : Option A) (e : ConfigError) (k : A → Result B ConfigError) (faults : A → List ConfigError) (Q : B → Type 0)
    → ((x : A) → o ≡ Some x → Agrees (k x) (faults x) Q) → Agrees (ok_or o e >>= k) (faults_or (e ∷ []) faults o) Q
agrees_or None e k faults Q next = refl
agrees_or (Some x) e k faults Q next = next x refl

pub agrees_check : (b : Bool) (e : ConfigError) → Agrees (check b e) (fault_if b e) (λ _. b ≡ false)
agrees_check true e = refl
agrees_check false e = (refl, refl)

-- the values of a list, each told those before it
pub agrees_each : {S : Type 0} (step : S → Data → Result S ConfigError) (faults : List Data → Data → List ConfigError) (Inv : List Data → S → Type 0)
    → ((before : List Data) (d : Data) (s : S) → Inv before s → Agrees (step s d) (faults before d) (Inv (before ++ d ∷ [])))
    → (ds before : List Data) (s : S) → Inv before s → Agrees (fold_read step s ds) (each_after faults before ds) (Inv (before ++ ds))
agrees_each step faults Inv one [] before s inv = let P : List Data → Type 0 = λ ds. Inv ds s in (refl, subst P (sym (append-nil before)) inv)
agrees_each step faults Inv one (d ∷ ds) before s inv =
    let rest : (t : _) → step s d ≡ Ok t → Inv (before ++ d ∷ []) t → Agrees (fold_read step t ds) (each_after faults (before ++ d ∷ []) ds) (Inv (before ++ d ∷ ds)) =
    λ t is here. agrees_as (fold_read step t ds) (each_after faults (before ++ d ∷ []) ds) (Inv ((before ++ d ∷ []) ++ ds)) (Inv (before ++ d ∷ ds)) (agrees_each step faults Inv one ds (before ++ d ∷ []) t here)
    (λ u _ all. let P : List Data → Type 0 = λ es. Inv es u in subst P (append_assoc before (d ∷ []) ds) all) in
    agrees_then (step s d) (λ t. fold_read step t ds) (faults before d) (each_after faults (before ++ d ∷ []) ds) (Inv (before ++ d ∷ [])) (Inv (before ++ d ∷ ds)) (one before d s inv) rest

-- the same steps, with what comes after them
pub more_or : {A B : Type 0} (o : Option A) (e : ConfigError) (k : A → Result B ConfigError) (faults : A → List ConfigError) (more : List ConfigError) (Q : B → Type 0)
    → ((x : A) → o ≡ Some x → Agrees (k x) (faults x ++ more) Q) → Agrees (ok_or o e >>= k) (faults_or (e ∷ []) faults o ++ more) Q
more_or None e k faults more Q next = refl
more_or (Some x) e k faults more Q next = next x refl

pub more_check : {B : Type 0} (b : Bool) (e : ConfigError) (k : Result B ConfigError) (more : List ConfigError) (Q : B → Type 0)
    → (b ≡ false → Agrees k more Q) → Agrees (check b e >>= λ _. k) (fault_if b e ++ more) Q
more_check true e k more Q next = refl
more_check false e k more Q next = next refl

pub more_object : {B : Type 0} (o : Option Members) (k : Result B ConfigError) (faults : List ConfigError) (Q : B → Type 0)
    → Agrees k faults Q → Agrees ((ok_or o WrongType >>= λ _. Ok (tt {0})) >>= λ _. k) (faults_or (WrongType ∷ []) (λ _. faults) o) Q
more_object None k faults Q next = refl
more_object (Some ms) k faults Q next = next

comment_text : {B : Type 0} (o : Option Bytes) (k : Result B ConfigError) (more : List ConfigError) (Q : B → Type 0)
    → Agrees k more Q → Agrees ((ok_or o WrongType >>= λ _. Ok (tt {0})) >>= λ _. k) (faults_or (WrongType ∷ []) (λ _. []) o ++ more) Q
comment_text None k more Q next = refl
comment_text (Some text) k more Q next = next

pub more_comment : {B : Type 0} (o : Option Data) (k : Result B ConfigError) (more : List ConfigError) (Q : B → Type 0)
    → Agrees k more Q → Agrees (comment_in o >>= λ _. k) (faults_or [] text_faults o ++ more) Q
more_comment None k more Q next = next
more_comment (Some d) k more Q next = comment_text (as_str d) k more Q next

-- what was read, put into another form
pub agrees_map : {A B : Type 0} (r : Result A ConfigError) (f : A → B) (faults : List ConfigError) (P : A → Type 0) (Q : B → Type 0)
    → Agrees r faults P → ((x : A) → P x → Q (f x)) → Agrees (r >>= λ x. Ok (f x)) faults Q
agrees_map (Ok x) f faults P Q h to = (h.0, to x h.1)
agrees_map (Err e) f faults P Q h to = h
