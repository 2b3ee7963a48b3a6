-- Lists of values, item by item.
use Rattle.std.proofs.Common.{◌≡◌, Bool, true, false, cond, ℕ, ◌+◌, ◌<◌, ◌≤◌, List, [], ◌∷◌, ◌++◌, length, drop, get_or, Option, Some, None, Ok, Err, refl, sym, ap, ◌∙◌, append_assoc, arith}
use Rattle.std.specs.Prelude.{option_map, option_and_then, String}
use Rattle.std.specs.declared.alloc.Global.{Global}
use Rattle.std.proofs.lemmas.List.{drop_more, drop_all, append-nil}
use Rattle.serde_json.specs.Data.{Data, Items}
use Rattle.serde_json.specs.Find.{as_array}
use Rattle.serde_json.specs.View.{view, items_view, members_view}
use Rattle.serde_json.specs.declared.value.Value.{Value}
use Rattle.script.specs.declared.faults.Fault.TheVariants.{Malformed}
use Rattle.script.specs.declared.faults.Stop.{Stop}
use Rattle.script.specs.declared.faults.Stop.TheVariants as stops
use Rattle.script.specs.Reading.{Fails, or_malformed}
use Rattle.script.specs.Runs.{each, pair_in, pair_of, external_of, value_in}
use Rattle.script.specs.declared.values.Plain.TheVariants.{External}
use Rattle.std.specs.Str.{IsUtf8, is_utf8}
use Rattle.std.proofs.lemmas.Str.{is_utf8-from_IsUtf8, IsUtf8-from_is_utf8}
use Rattle.serde_json.specs.Read.{read}

pub no_members_in : (ms : List (String Global × Value)) → length ms ≡ 0 → external_of (members_view ms) ≡ Some External
no_members_in [] h = refl
no_members_in (m ∷ ms) h = absurd (omega (arith, h))

pub some_given : {A : Type 0} (o : Option A) (x : A) → or_malformed o ≡ Ok x → o ≡ Some x
some_given None x e = absurd cc
some_given (Some y) x e = cc

-- what was read before, and what is still read
abbrev pub with_front : {A : Type 0} → List A → Option (List A) → Option (List A)
with_front front o = option_map (λ xs. front ++ xs) o

pub front_none : {A : Type 0} (o : Option (List A)) → with_front [] o ≡ o
front_none None = refl
front_none (Some xs) = refl

regroup : {A : Type 0} (front : List A) (x : A) (o : Option (List A)) → with_front front (option_map (λ xs. x ∷ xs) o) ≡ with_front (front ++ x ∷ []) o
regroup front x None = refl
regroup front x (Some xs) = ap Some (sym (append_assoc front (x ∷ []) xs))

pub front_more : {A : Type 0} (f : Data → Option A) (front : List A) (list : List Value) (i : ℕ) (v : Value) (x : A) (total : Option (List A)) → i < length list → v ≡ get_or list i v
    → or_malformed (f (view v)) ≡ Ok x → with_front front (each f (items_view (drop i list))) ≡ total → with_front (front ++ x ∷ []) (each f (items_view (drop (i + 1) list))) ≡ total
front_more {A = A} f front list i v x total lt at given so_far =
    let step : drop i list ≡ v ∷ drop (i + 1) list = drop_more list i v lt ∙ ap (λ (w : Value). w ∷ drop (i + 1) list) (sym at) in
    let one : with_front front (each f (items_view (drop i list))) ≡ with_front (front ++ x ∷ []) (each f (items_view (drop (i + 1) list))) =
    ap (λ (vs : List Value). with_front front (each f (items_view vs))) step
    ∙ ap (λ (o : Option A). with_front front (option_and_then (λ y. option_map (λ xs. y ∷ xs) (each f (items_view (drop (i + 1) list)))) o)) (some_given (f (view v)) x given)
    ∙ regroup front x (each f (items_view (drop (i + 1) list))) in
    sym one ∙ so_far

fails_none : {A B : Type 0} (e : Stop) (o : Option A) (f : A → Option B) → Fails e (or_malformed o) → Fails e (or_malformed (option_and_then f o))
fails_none stops.Memory o f h = tt
fails_none (stops.Fault fault) None f h = cc
fails_none (stops.Fault fault) (Some x) f h = absurd cc

front_fails : {A : Type 0} (e : Stop) (front : List A) (o : Option (List A)) → Fails e (or_malformed o) → Fails e (or_malformed (with_front front o))
front_fails stops.Memory front o h = tt
front_fails (stops.Fault fault) front None h = cc
front_fails (stops.Fault fault) front (Some x) h = absurd cc

pub pair_fails : (v : Value) (xs : List Value) → or_malformed (as_array (view v)) ≡ Ok (items_view xs) → pair_in (items_view xs) ≡ None → or_malformed (pair_of (view v)) ≡ Err Malformed
pair_fails v xs e h = ap (λ (o : Option Items). or_malformed (option_and_then pair_in o)) (some_given (as_array (view v)) (items_view xs) e) ∙ ap or_malformed h

pub pair_short : (xs : List Value) → length xs < 2 → pair_in (items_view xs) ≡ None
pair_short [] h = refl
pair_short (x ∷ []) h = refl
pair_short (x ∷ y ∷ xs) h = absurd (omega (arith, h))

pub pair_long : (xs : List Value) → 3 ≤ length xs → pair_in (items_view xs) ≡ None
pair_long [] h = absurd (omega (arith, h))
pair_long (x ∷ []) h = absurd (omega (arith, h))
pair_long (x ∷ y ∷ []) h = absurd (omega (arith, h))
pair_long (x ∷ y ∷ z ∷ xs) h = refl

pub some_members : (ms : List (String Global × Value)) → (length ms ≡ 0 → ⊥) → external_of (members_view ms) ≡ None
some_members [] h = absurd (h refl)
some_members (m ∷ ms) h = refl

-- the whole list is read once each item is
pub front_done : {A : Type 0} (f : Data → Option A) (v : Value) (front : List A) (list : List Value) (i : ℕ) → length list ≤ i → or_malformed (as_array (view v)) ≡ Ok (items_view list)
    → with_front front (each f (items_view (drop i list))) ≡ each f (items_view list) → or_malformed (option_and_then (each f) (as_array (view v))) ≡ Ok front
front_done {A = A} f v front list i le e so_far =
    let ended : with_front front (each f (items_view (drop i list))) ≡ Some front = rw (drop_all i list le) (ap Some (append-nil front)) in
    ap (λ (o : Option Items). or_malformed (option_and_then (each f) o)) (some_given (as_array (view v)) (items_view list) e) ∙ ap or_malformed (sym so_far ∙ ended)

-- where an item fails, the list does
pub front_stops : {A : Type 0} (f : Data → Option A) (e : Stop) (v : Value) (front : List A) (list : List Value) (i : ℕ) (x : Value) → i < length list → x ≡ get_or list i x → or_malformed (as_array (view v)) ≡ Ok (items_view list)
    → Fails e (or_malformed (f (view x))) → with_front front (each f (items_view (drop i list))) ≡ each f (items_view list) → Fails e (or_malformed (option_and_then (each f) (as_array (view v))))
front_stops {A = A} f e v front list i x lt at given fails so_far =
    let step : drop i list ≡ x ∷ drop (i + 1) list = drop_more list i x lt ∙ ap (λ (w : Value). w ∷ drop (i + 1) list) (sym at) in
    let here : Fails e (or_malformed (with_front front (each f (items_view (drop i list))))) =
    rw step (front_fails e front (option_and_then (λ y. option_map (λ xs. y ∷ xs) (each f (items_view (drop (i + 1) list)))) (f (view x))) (fails_none e (f (view x)) (λ y. option_map (λ xs. y ∷ xs) (each f (items_view (drop (i + 1) list)))) fails)) in
    rw (some_given (as_array (view v)) (items_view list) given) (rw so_far at here)

pub value_given : (json : List ℕ) (d : Data) → IsUtf8 json → read json ≡ Some d → or_malformed (value_in json) ≡ Ok d
unfolding value_in
value_given json d text e = ap (λ (t : Bool). or_malformed (cond t (read json) None)) (is_utf8-from_IsUtf8 json text) ∙ ap or_malformed e

refused_as : (json : List ℕ) (b : Bool) (e : IsUtf8 json → read json ≡ None) → is_utf8 json ≡ b → or_malformed (cond b (read json) None) ≡ Err Malformed
refused_as json true e is = ap or_malformed (e (IsUtf8-from_is_utf8 json is))
refused_as json false e is = refl

pub value_refused : (json : List ℕ) → (IsUtf8 json → read json ≡ None) → or_malformed (value_in json) ≡ Err Malformed
unfolding value_in
value_refused json e = refused_as json (is_utf8 json) e refl
