-- Sources, sinks and features: what is read agrees with the faults.
use Rattle.std.proofs.Common.{◌≡◌, Bool, true, false, cond, List, [], ◌∷◌, ◌++◌, Option, Some, None, Result, Ok, refl, sym, ap, ◌∙◌}
use Rattle.std.specs.Prelude.{codes, option_and_then}
use Rattle.std.specs.List.{list_any, list_all, IsDistinct}
use Rattle.std.proofs.lemmas.Cmp.{nat_list_eq_equiv}
use Rattle.std.proofs.lemmas.List.Elements.{filter_map-append}
use Rattle.std.proofs.lemmas.List.Folds.{list_all-append}
use Rattle.std.proofs.lemmas.Map.Keys.{IsDistinct-push}
use Rattle.serde_json.specs.Data.{Data}
use Rattle.serde_json.specs.Find.{get, as_str, as_object}
use Rattle.rv_names.specs.Keys.{Bytes, bytes_equal}
use Rattle.taint_config.specs.declared.faults.ConfigError.{ConfigError}
use Rattle.taint_config.specs.declared.faults.ConfigError.TheVariants.{Missing, WrongType, Twice}
use Rattle.taint_config.specs.Kinds.{is_kind, kind_of}
use Rattle.taint_config.specs.Values.{as_list, as_kind, text_at, values_in, list_in}
use Rattle.taint_config.specs.Faults.{faults_or, fault_if, typed, optional, text_faults, names_of, kind_faults, feature_faults, each_after, in_list}
use Rattle.taint_config.specs.Reading.{◌>>=◌, check, comment_read, kind_read, text_read, fold_read, push_step, kind_step, kinds_read, feature_read, features_listed, features_in}
use Rattle.taint_config.proofs.Names.{and_both}
use Rattle.taint_config.proofs.Agreement.{Agrees, agrees_or, agrees_each, agrees_map, more_or, more_check, more_object, more_comment}

-- a string that is a kind
kind_text : (o : Option Bytes) (name : Bytes) → option_and_then kind_of o ≡ Some name → (o ≡ Some name) × (is_kind name ≡ true)
kind_text None name h = absurd cc
kind_text (Some text) name h = by (is_kind text) refl h
  where
    by : (b : Bool) → is_kind text ≡ b → cond b (Some text) None ≡ Some name → (Some text ≡ Some name) × (is_kind name ≡ true)
    by true is e = let same : text ≡ name = cc in (e, ap is_kind (sym same) ∙ is)
    by false is e = absurd cc

-- one more name
pub names_more : (before : List Data) (d : Data) (name : Bytes) → text_at (codes "name") d ≡ Some name → names_of (before ++ d ∷ []) ≡ names_of before ++ name ∷ []
names_more before d name is = filter_map-append (text_at (codes "name")) before (d ∷ []) ∙ rw is refl

pub text_found : (key : Bytes) (d value : Data) (text : Bytes) → get key d ≡ Some value → as_str value ≡ Some text → text_at key d ≡ Some text
text_found key d value text at is = ap (option_and_then as_str) at ∙ is

-- names that were read without a fault
pub record AreKinds (before : List Data) (kinds : List Bytes) : Type 0 where
  pub names : kinds ≡ names_of before
  pub all : list_all is_kind kinds ≡ true
  pub differ : IsDistinct bytes_equal kinds

kinds_more : (before : List Data) (kinds : List Bytes) (d : Data) (name : Bytes) → AreKinds before kinds → text_at (codes "name") d ≡ Some name → is_kind name ≡ true
    → list_any (bytes_equal name) kinds ≡ false → AreKinds (before ++ d ∷ []) (kinds ++ name ∷ [])
kinds_more before kinds d name are at is new = record {
  names = ap (λ (ks : List Bytes). ks ++ name ∷ []) are.names ∙ sym (names_more before d name at);
  all = list_all-append is_kind kinds (name ∷ []) ∙ and_both _ _ are.all (and_both _ _ is refl);
  differ = IsDistinct-push nat_list_eq_equiv kinds name are.differ new;
}

kind_law : (before : List Data) (d : Data) (kinds : List Bytes) → AreKinds before kinds → Agrees (kind_step kinds d) (kind_faults before d) (AreKinds (before ++ d ∷ []))
unfolding kind_step
kind_law before d kinds are =
    let Q : List Bytes → Type 0 = AreKinds (before ++ d ∷ []) in
    let after : Bytes → Result (List Bytes) ConfigError = λ name. comment_read d >>= λ _. Ok (kinds ++ name ∷ []) in
    let tested : Bytes → Result (List Bytes) ConfigError = λ name. check (list_any (bytes_equal name) kinds) Twice >>= λ _. after name in
    let known : Bytes → List ConfigError = λ name. fault_if (list_any (bytes_equal name) (names_of before)) Twice in
    let last : List ConfigError = optional (codes "comment") text_faults d ++ [] in
    more_object (as_object d) _ _ Q
    (more_or (get (codes "name") d) Missing (λ value. kind_read value >>= tested) (typed as_kind known) last Q (λ value at.
    more_or (as_kind value) WrongType tested known last Q (λ name is.
    let text = kind_text (as_str value) name is in
    rw (← are.names) (more_check (list_any (bytes_equal name) kinds) Twice (after name) last Q (λ new.
    more_comment (get (codes "comment") d) (Ok (kinds ++ name ∷ [])) [] Q
    (refl, kinds_more before kinds d name are (text_found (codes "name") d value name at text.0) text.1 new))))))

pub none_twice : {A : Type 0} (eq : A → A → Bool) → IsDistinct eq []
unfolding IsDistinct
none_twice eq = tt

-- the sources or the sinks
pub kinds_law : (d : Data) → Agrees (kinds_read d) (in_list kind_faults d) (AreKinds (values_in d))
kinds_law d =
    agrees_or (as_list d) WrongType (fold_read kind_step []) (each_after kind_faults []) (AreKinds (values_in d)) (λ ds is.
    rw is (agrees_each kind_step kind_faults AreKinds kind_law ds [] [] (record { names = refl; all = refl; differ = none_twice bytes_equal })))

feature_law : (before : List Data) (d : Data) (features : List Bytes) → features ≡ names_of before
    → Agrees (push_step feature_read features d) (feature_faults before d) (λ fs. fs ≡ names_of (before ++ d ∷ []))
unfolding feature_read
feature_law before d features are =
    let P : Bytes → Type 0 = λ name. text_at (codes "name") d ≡ Some name in
    let after : Bytes → Result Bytes ConfigError = λ name. comment_read d >>= λ _. Ok name in
    let last : List ConfigError = optional (codes "comment") text_faults d ++ [] in
    agrees_map (feature_read d) (λ name. features ++ name ∷ []) (feature_faults before d) P (λ fs. fs ≡ names_of (before ++ d ∷ []))
    (more_object (as_object d) _ _ P
    (more_or (get (codes "name") d) Missing (λ value. text_read value >>= after) text_faults last P (λ value at.
    more_or (as_str value) WrongType after (λ _. []) last P (λ name is.
    more_comment (get (codes "comment") d) (Ok name) [] P (refl, text_found (codes "name") d value name at is)))))
    (λ name at. ap (λ (ks : List Bytes). ks ++ name ∷ []) are ∙ sym (names_more before d name at))

listed_law : (d : Data) → Agrees (features_listed d) (in_list feature_faults d) (λ fs. fs ≡ names_of (values_in d))
listed_law d =
    agrees_or (as_list d) WrongType (fold_read (push_step feature_read) []) (each_after feature_faults []) (λ fs. fs ≡ names_of (values_in d)) (λ ds is.
    rw is (agrees_each (push_step feature_read) feature_faults (λ before fs. fs ≡ names_of before) feature_law ds [] [] refl))

-- the features, which may be missing
pub features_law : (o : Option Data) → Agrees (features_in o) (faults_or [] (in_list feature_faults) o) (λ fs. fs ≡ names_of (list_in o))
features_law None = (refl, refl)
features_law (Some d) = listed_law d
