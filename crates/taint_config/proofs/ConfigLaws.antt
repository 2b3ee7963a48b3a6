-- A configuration: what is read agrees with the faults, and its facts hold.
use Rattle.std.proofs.Common.{◌≡◌, ℕ, ◌+◌, ◌<◌, ◌≤◌, List, [], ◌∷◌, ◌++◌, length, map, All, Option, Some, None, Result, Ok, Err, refl, ap, ◌∙◌, arith, subst}
use Rattle.std.specs.Prelude.{codes, option_map, option_and_then, position, nat_lt, ◌==◌}
use Rattle.std.specs.List.{cons_option, AllByRecursion, IsDistinct}
use Rattle.std.proofs.lemmas.Bool.{ltb-false}
use Rattle.std.proofs.lemmas.List.Elements.{All-from_recursion}
use Rattle.serde_json.specs.Data.{Data}
use Rattle.serde_json.specs.Find.{get, as_str, as_object}
use Rattle.rv_names.specs.Keys.{Bytes, bytes_equal}
use Rattle.taint_config.specs.declared.faults.ConfigError.{ConfigError}
use Rattle.taint_config.specs.declared.faults.ConfigError.TheVariants.{Missing, TooManyKinds}
use Rattle.taint_config.specs.Kinds.{number_from}
use Rattle.taint_config.specs.Values.{list_at}
use Rattle.taint_config.specs.Faults.{fault_if, required, optional, kind_faults, feature_faults, rule_faults, in_list, names_of, sources_of, sinks_of, config_faults, first_fault}
use Rattle.taint_config.specs.Config.{RuleParts, IsConfig, IsSource, IsSink, numbers_of, rule_of, features_of, config_of, notes_of}
use Rattle.taint_config.specs.Reading.{◌>>=◌, check, field_read, kinds_read, rules_read, features_in, Parts, parts_read}
use Rattle.taint_config.proofs.Agreement.{Agrees, agrees_ok, agrees_err, agrees_then, more_or, more_check, more_object}
use Rattle.taint_config.proofs.Places.{present}
use Rattle.taint_config.proofs.KindLaws.{kinds_law, features_law}
use Rattle.taint_config.proofs.RuleLaws.{list_found, rules_law}

-- what was read of a configuration
pub record IsRead (d : Data) (p : Parts) : Type 0 where
  pub sources : p.sources ≡ sources_of d
  pub sinks : p.sinks ≡ sinks_of d
  pub features : p.features ≡ features_of d
  pub rules : p.rules ≡ map (rule_of p.sources p.sinks) (list_at (codes "rules") d)
  pub few : length p.sources + length p.sinks ≤ 255
  pub sources_differ : IsDistinct bytes_equal p.sources
  pub sinks_differ : IsDistinct bytes_equal p.sinks
  pub codes_differ : IsDistinct ◌==◌ (map (λ r. r.code) p.rules)

pub parts_law : (d : Data) → Agrees (parts_read d) (config_faults d) (IsRead d)
unfolding parts_read
parts_law d =
    let Q : Parts → Type 0 = IsRead d in
    let R : Type 0 = Result Parts ConfigError in
    let tested : List Bytes → List Bytes → List RuleParts → List Bytes → R = λ from to rules features.
    check (nat_lt 255 (length from + length to)) TooManyKinds >>= λ _. Ok (record { sources = from; sinks = to; rules = rules; features = features }) in
    let at_features : List Bytes → List Bytes → List RuleParts → R = λ from to rules. features_in (get (codes "features") d) >>= tested from to rules in
    let at_rules : List Bytes → List Bytes → R = λ from to. field_read (codes "rules") d >>= λ value. rules_read from to value >>= at_features from to in
    let at_sinks : List Bytes → R = λ from. field_read (codes "sinks") d >>= λ value. kinds_read value >>= at_rules from in
    let f1 : List Bytes → List Bytes → List ConfigError = λ from to. fault_if (nat_lt 255 (length from + length to)) TooManyKinds ++ [] in
    let f2 : List Bytes → List Bytes → List ConfigError = λ from to. optional (codes "features") (in_list feature_faults) d ++ f1 from to in
    let f3 : List Bytes → List Bytes → List ConfigError = λ from to. required (codes "rules") (in_list (rule_faults from to)) d ++ f2 from to in
    let f4 : List ConfigError = required (codes "sinks") (in_list kind_faults) d ++ f3 (sources_of d) (sinks_of d) in
    more_object (as_object d) _ _ Q
    (more_or (get (codes "sources") d) Missing (λ value. kinds_read value >>= at_sinks) (in_list kind_faults) f4 Q (λ from_value from_at.
    agrees_then (kinds_read from_value) at_sinks (in_list kind_faults from_value) f4 _ Q (kinds_law from_value) (λ from _ from_are.
    more_or (get (codes "sinks") d) Missing (λ value. kinds_read value >>= at_rules from) (in_list kind_faults) (f3 (sources_of d) (sinks_of d)) Q (λ to_value to_at.
    agrees_then (kinds_read to_value) (at_rules from) (in_list kind_faults to_value) (f3 (sources_of d) (sinks_of d)) _ Q (kinds_law to_value) (λ to _ to_are.
    let from_is : from ≡ sources_of d = from_are.names ∙ ap names_of (list_found (codes "sources") d from_value from_at) in
    let to_is : to ≡ sinks_of d = to_are.names ∙ ap names_of (list_found (codes "sinks") d to_value to_at) in
    let same : f3 from to ≡ f3 (sources_of d) (sinks_of d) = λ i. f3 (from_is i) (to_is i) in
    let P : List ConfigError → Type 0 = λ faults. Agrees (at_rules from to) faults Q in
    subst P same (more_or (get (codes "rules") d) Missing (λ value. rules_read from to value >>= at_features from to) (in_list (rule_faults from to)) (f2 from to) Q (λ rules_value rules_at.
    agrees_then (rules_read from to rules_value) (at_features from to) (in_list (rule_faults from to) rules_value) (f2 from to) _ Q (rules_law from to rules_value from_are.all to_are.all) (λ rules _ rules_are.
    agrees_then (features_in (get (codes "features") d)) (tested from to rules) (optional (codes "features") (in_list feature_faults) d) (f1 from to) _ Q (features_law (get (codes "features") d)) (λ features _ features_are.
    more_check (nat_lt 255 (length from + length to)) TooManyKinds (Ok (record { sources = from; sinks = to; rules = rules; features = features })) [] Q (λ small.
    let few : length from + length to ≤ 255 = ltb-false _ _ small in (
      refl,
      record {
        sources = from_is;
        sinks = to_is;
        features = features_are;
        rules = rules_are.1 few ∙ ap (map (rule_of from to)) (list_found (codes "rules") d rules_value rules_at);
        few = few;
        sources_differ = from_are.differ;
        sinks_differ = to_are.differ;
        codes_differ = rules_are.0;
      },
    )))))))))))

-- the numbers of a rule's sources or sinks
abbrev IsWithin : ℕ → List Bytes → ℕ → Type 0
IsWithin first names n = (first ≤ n) × (n < first + length names)

placed : (first : ℕ) (names : List Bytes) (name : Bytes) (rest : List ℕ) (o : Option ℕ) → position (bytes_equal name) names ≡ o → AllByRecursion (IsWithin first names) rest
    → AllByRecursion (IsWithin first names) (cons_option (option_map (λ k. first + k) o) rest)
placed first names name rest None at all = all
placed first names name rest (Some k) at all = let there = present name names k at in ((omega arith, omega (arith, there.1)), all)

numbered : (first : ℕ) (names : List Bytes) (rest : List ℕ) (o : Option Bytes) → AllByRecursion (IsWithin first names) rest
    → AllByRecursion (IsWithin first names) (cons_option (option_and_then (number_from first names) o) rest)
numbered first names rest None all = all
numbered first names rest (Some name) all = placed first names name rest (position (bytes_equal name) names) refl all

within : (first : ℕ) (names : List Bytes) (ds : List Data) → AllByRecursion (IsWithin first names) (numbers_of first names ds)
within first names [] = tt
within first names (d ∷ ds) = numbered first names (numbers_of first names ds) (as_str d) (within first names ds)

all_sources : (from to : List Bytes) (d : Data) → All (IsSource from) (rule_of from to d).sources
all_sources from to d = let all = All-from_recursion (IsWithin 0 from) _ (within 0 from (list_at (codes "sources") d)) in λ k e lt. omega (arith, (all k e lt).1)

all_sinks : (from to : List Bytes) (d : Data) → All (IsSink from to) (rule_of from to d).sinks
all_sinks from to d = All-from_recursion (IsWithin (length from) to) _ (within (length from) to (list_at (codes "sinks") d))

from_sources : (from to : List Bytes) (ds : List Data) → AllByRecursion (λ r. All (IsSource from) r.sources) (map (rule_of from to) ds)
from_sources from to [] = tt
from_sources from to (d ∷ ds) = (all_sources from to d, from_sources from to ds)

to_sinks : (from to : List Bytes) (ds : List Data) → AllByRecursion (λ r. All (IsSink from to) r.sinks) (map (rule_of from to) ds)
to_sinks from to [] = tt
to_sinks from to (d ∷ ds) = (all_sinks from to d, to_sinks from to ds)

pub facts : (d : Data) (p : Parts) → IsRead d p → IsConfig p.sources p.sinks p.rules
facts d p is = record {
  few = is.few;
  sources_differ = is.sources_differ;
  sinks_differ = is.sinks_differ;
  codes_differ = is.codes_differ;
  from_sources = rw is.rules (All-from_recursion (λ r. All (IsSource p.sources) r.sources) _ (from_sources p.sources p.sinks (list_at (codes "rules") d)));
  to_sinks = rw is.rules (All-from_recursion (λ r. All (IsSink p.sources p.sinks) r.sinks) _ (to_sinks p.sources p.sinks (list_at (codes "rules") d)));
}

pub config_is : (d : Data) (p : Parts) (notes : List Bytes) → IsRead d p → notes ≡ notes_of d
    → record { sources = p.sources; sinks = p.sinks; features = p.features; rules = p.rules; notes = notes } ≡ config_of d
config_is d p notes is noted = λ i. record {
  sources = is.sources i;
  sinks = is.sinks i;
  features = is.features i;
  rules = (is.rules ∙ (λ j. map (rule_of (is.sources j) (is.sinks j)) (list_at (codes "rules") d))) i;
  notes = noted i;
}

-- what `parts_read` tells
pub read_well : (d : Data) (p : Parts) → parts_read d ≡ Ok p → (config_faults d ≡ []) × IsRead d p
read_well d p is = agrees_ok (parts_read d) p (config_faults d) (IsRead d) (parts_law d) is

pub read_ill : (d : Data) (e : ConfigError) → parts_read d ≡ Err e → first_fault (config_faults d) ≡ Some e
read_ill d e is = agrees_err (parts_read d) e (config_faults d) (IsRead d) (parts_law d) is
