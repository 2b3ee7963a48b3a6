-- The sources and sinks of a rule: what is read agrees with the faults.
use Rattle.std.proofs.Common.{◌≡◌, ℕ, ◌+◌, ◌≤◌, min, Bool, true, not, List, [], ◌∷◌, ◌++◌, length, Option, Some, None, Result, Ok, refl, sym, ap, ◌∙◌, arith, append_assoc}
use Rattle.std.specs.Prelude.{position, is_some, option_map, option_and_then, unwrap_or, ◌&&◌}
use Rattle.std.specs.List.{list_any, list_all, filter_map, flat_map, cons_option}
use Rattle.std.specs.Option.{ok_or}
use Rattle.std.proofs.lemmas.List.{append-nil}
use Rattle.serde_json.specs.Data.{Data}
use Rattle.serde_json.specs.Find.{as_str}
use Rattle.rv_names.specs.Keys.{Bytes, bytes_equal}
use Rattle.taint_config.specs.declared.faults.ConfigError.{ConfigError}
use Rattle.taint_config.specs.declared.faults.ConfigError.TheVariants.{WrongType, UnknownKind}
use Rattle.taint_config.specs.Kinds.{is_kind, number_from}
use Rattle.taint_config.specs.Values.{as_list, values_in}
use Rattle.taint_config.specs.Faults.{faults_or, fault_if, text_faults, together, known_faults}
use Rattle.taint_config.specs.Config.{numbers_of}
use Rattle.taint_config.specs.Reading.{◌>>=◌, check, fold_read, push_step, number_read, is_text, numbers_read}
use Rattle.taint_config.proofs.Agreement.{Agrees, agrees_then, agrees_map, agrees_as}
use Rattle.taint_config.proofs.Places.{absent, present, place_of-kinds}

-- strings have no fault as strings, and what is none is the first
texts_step : (o : Option Bytes) (b : Bool) (more : List ConfigError) → Agrees (check (not b) WrongType) more (λ _. b ≡ true)
    → Agrees (check (not (is_some o && b)) WrongType) (faults_or (WrongType ∷ []) (λ _. []) o ++ more) (λ _. is_some o && b ≡ true)
texts_step None b more h = refl
texts_step (Some text) b more h = h

texts_law : (ds : List Data) → Agrees (check (not (list_all is_text ds)) WrongType) (flat_map text_faults ds) (λ _. list_all is_text ds ≡ true)
texts_law [] = (refl, refl)
texts_law (d ∷ ds) = texts_step (as_str d) (list_all is_text ds) (flat_map text_faults ds) (texts_law ds)

-- the fault of a name that is not known
abbrev unknown : List Bytes → Bytes → List ConfigError
unknown names name = fault_if (not (list_any (bytes_equal name) names)) UnknownKind

-- the numbers, where they are small enough to be told apart
abbrev AreNumbers : ℕ → List Bytes → List Data → List ℕ → List ℕ → Type 0
AreNumbers first names ds before numbers = first + length names ≤ 255 → numbers ≡ before ++ numbers_of first names ds

-- one more number, and then the others
number_step : (first : ℕ) (names : List Bytes) (d : Data) (ds : List Data) (name : Bytes) (ns : List ℕ) (o : Option ℕ)
    → as_str d ≡ Some name → position (bytes_equal name) names ≡ o
    → ((ns : List ℕ) → Agrees (fold_read (push_step (number_read first names)) ns ds) (flat_map (unknown names) (filter_map as_str ds)) (AreNumbers first names ds ns))
    → Agrees
    (((ok_or o UnknownKind >>= λ k. Ok (min (first + k) 255)) >>= λ n. Ok (ns ++ n ∷ [])) >>= λ ms. fold_read (push_step (number_read first names)) ms ds)
    (unknown names name ++ flat_map (unknown names) (filter_map as_str ds))
    (AreNumbers first names (d ∷ ds) ns)
number_step first names d ds name ns None text at rest = rw (absent name names at) refl
number_step first names d ds name ns (Some k) text at rest =
    let there = present name names k at in
    let m : ℕ = min (first + k) 255 in
    let found : cons_option (option_and_then (number_from first names) (as_str d)) (numbers_of first names ds) ≡ (first + k) ∷ numbers_of first names ds =
    ap (λ (o : Option Bytes). cons_option (option_and_then (number_from first names) o) (numbers_of first names ds)) text
    ∙ ap (λ (o : Option ℕ). cons_option (option_map (λ k. first + k) o) (numbers_of first names ds)) at in
    let faults : List ConfigError = flat_map (unknown names) (filter_map as_str ds) in
    rw there.0 (agrees_as (fold_read (push_step (number_read first names)) (ns ++ m ∷ []) ds) faults (AreNumbers first names ds (ns ++ m ∷ [])) (AreNumbers first names (d ∷ ds) ns) (rest (ns ++ m ∷ []))
    (λ ms _ are few.
    let small : m ≡ first + k = omega (arith, there.1, few) in
    are few ∙ append_assoc ns (m ∷ []) (numbers_of first names ds) ∙ ap (λ (n : ℕ). ns ++ n ∷ numbers_of first names ds) small ∙ ap (λ (l : List ℕ). ns ++ l) (sym found)))

numbers_law : (first : ℕ) (names : List Bytes) (ds : List Data) (ns : List ℕ) → list_all is_kind names ≡ true → list_all is_text ds ≡ true
    → Agrees (fold_read (push_step (number_read first names)) ns ds) (flat_map (unknown names) (filter_map as_str ds)) (AreNumbers first names ds ns)
unfolding number_read
numbers_law first names [] ns kinds texts = (refl, λ few. sym (append-nil ns))
numbers_law first names (d ∷ ds) ns kinds texts = by (as_str d) refl texts (λ ms all. numbers_law first names ds ms kinds all)
  where
    by : (o : Option Bytes) → as_str d ≡ o → is_some o && list_all is_text ds ≡ true
        → ((ms : List ℕ) → list_all is_text ds ≡ true → Agrees (fold_read (push_step (number_read first names)) ms ds) (flat_map (unknown names) (filter_map as_str ds)) (AreNumbers first names ds ms))
        → Agrees (fold_read (push_step (number_read first names)) ns (d ∷ ds)) (flat_map (unknown names) (filter_map as_str (d ∷ ds))) (AreNumbers first names (d ∷ ds) ns)
    by None is all rest = absurd cc
    by (Some name) is all rest =
        rw (is, place_of-kinds name names kinds) (number_step first names d ds name ns (position (bytes_equal name) names) is refl (λ ms. rest ms all))

strings_law : (ds : List Data) → Agrees (check (not (list_all is_text ds)) WrongType >>= λ _. Ok ds) (flat_map text_faults ds) (λ es. (es ≡ ds) × (list_all is_text ds ≡ true))
strings_law ds = agrees_map (check (not (list_all is_text ds)) WrongType) (λ _. ds) (flat_map text_faults ds) (λ _. list_all is_text ds ≡ true) (λ es. (es ≡ ds) × (list_all is_text ds ≡ true)) (texts_law ds) (λ _ all. (refl, all))

known_by : (first : ℕ) (names : List Bytes) (o : Option (List Data)) → list_all is_kind names ≡ true
    → Agrees
    ((ok_or o WrongType >>= λ ds. check (not (list_all is_text ds)) WrongType >>= λ _. Ok ds) >>= fold_read (push_step (number_read first names)) [])
    (faults_or (WrongType ∷ []) (λ ds. together (flat_map text_faults ds ∷ flat_map (unknown names) (filter_map as_str ds) ∷ [])) o)
    (λ ns. first + length names ≤ 255 → ns ≡ numbers_of first names (unwrap_or o []))
known_by first names None kinds = refl
known_by first names (Some ds) kinds =
    let faults : List ConfigError = flat_map (unknown names) (filter_map as_str ds) in
    let Q : List ℕ → Type 0 = λ ns. first + length names ≤ 255 → ns ≡ numbers_of first names ds in
    let read : List Data → Result (List ℕ) ConfigError = fold_read (push_step (number_read first names)) [] in
    agrees_then (check (not (list_all is_text ds)) WrongType >>= λ _. Ok ds) read (flat_map text_faults ds) (faults ++ []) (λ es. (es ≡ ds) × (list_all is_text ds ≡ true)) Q (strings_law ds)
    (λ es _ are. rw (are.0, append-nil faults) (numbers_law first names ds [] kinds are.1))

pub known_law : (first : ℕ) (names : List Bytes) (d : Data) → list_all is_kind names ≡ true
    → Agrees (numbers_read first names d) (known_faults names d) (λ ns. first + length names ≤ 255 → ns ≡ numbers_of first names (values_in d))
unfolding numbers_read
known_law first names d kinds = known_by first names (as_list d) kinds
