-- Rules: what is read agrees with the faults.
use Rattle.std.proofs.Common.{◌≡◌, ℕ, ◌+◌, ◌≤◌, true, false, List, [], ◌∷◌, ◌++◌, length, map, Some, Result, Ok, refl, sym, ap, ◌∙◌, arith}
use Rattle.std.specs.Prelude.{codes, option_and_then, unwrap_or, ◌==◌}
use Rattle.std.specs.List.{list_any, list_all, IsDistinct}
use Rattle.std.specs.Option.{ok_or}
use Rattle.std.proofs.lemmas.Cmp.{nat_eq_equiv}
use Rattle.std.proofs.lemmas.List.{map-append}
use Rattle.std.proofs.lemmas.List.Elements.{filter_map-append}
use Rattle.std.proofs.lemmas.Map.Keys.{IsDistinct-push}
use Rattle.serde_json.specs.Data.{Data}
use Rattle.serde_json.specs.Find.{get, as_str, as_object}
use Rattle.rv_names.specs.Keys.{Bytes}
use Rattle.taint_config.specs.declared.faults.ConfigError.{ConfigError}
use Rattle.taint_config.specs.declared.faults.ConfigError.TheVariants.{Missing, WrongType, CodeTwice}
use Rattle.taint_config.specs.Kinds.{is_kind}
use Rattle.taint_config.specs.Values.{as_list, as_code, text_at, code_at, values_in, list_at, list_in}
use Rattle.taint_config.specs.Faults.{fault_if, typed, required, text_faults, codes_of, known_faults, rule_faults, each_after, in_list}
use Rattle.taint_config.specs.Config.{RuleParts, rule_of, numbers_of}
use Rattle.taint_config.specs.Reading.{◌>>=◌, check, field_read, code_read, text_read, fold_read, numbers_read, rule_read, rule_step, rules_read}
use Rattle.taint_config.proofs.Agreement.{Agrees, agrees_then, agrees_or, agrees_each, agrees_map, more_or, more_check, more_object}
use Rattle.taint_config.proofs.KindLaws.{text_found, none_twice}
use Rattle.taint_config.proofs.NumberLaws.{known_law}

-- what was read of one rule, with the codes before it
pub record IsRule (from to : List Bytes) (before : List ℕ) (d : Data) (read : RuleParts × List ℕ) : Type 0 where
  pub code : code_at (codes "code") d ≡ Some read.0.code
  pub known : read.1 ≡ before ++ read.0.code ∷ []
  pub new : list_any (λ c. read.0.code == c) before ≡ false
  pub parts : length from + length to ≤ 255 → read.0 ≡ rule_of from to d

pub list_found : (key : Bytes) (d value : Data) → get key d ≡ Some value → values_in value ≡ list_at key d
list_found key d value at = ap list_in (sym at)

-- a rule from its fields
rule_is : (from to : List Bytes) (d : Data) (name : Bytes) (code : ℕ) (sources sinks : List ℕ) (message : Bytes)
    → text_at (codes "name") d ≡ Some name → code_at (codes "code") d ≡ Some code
    → sources ≡ numbers_of 0 from (list_at (codes "sources") d) → sinks ≡ numbers_of (length from) to (list_at (codes "sinks") d)
    → text_at (codes "message_format") d ≡ Some message
    → record { name = name; code = code; sources = sources; sinks = sinks; message = message } ≡ rule_of from to d
rule_is from to d name code sources sinks message n c f t m = λ i. record {
  name = unwrap_or (sym n i) [];
  code = unwrap_or (sym c i) 0;
  sources = f i;
  sinks = t i;
  message = unwrap_or (sym m i) [];
}

pub rule_law : (from to : List Bytes) (before : List Data) (known : List ℕ) (d : Data) → list_all is_kind from ≡ true → list_all is_kind to ≡ true → known ≡ codes_of before
    → Agrees (rule_read from to known d) (rule_faults from to before d) (IsRule from to known d)
unfolding rule_read
rule_law from to before known d from_kinds to_kinds are =
    let Q : (RuleParts × List ℕ) → Type 0 = IsRule from to known d in
    let R : Type 0 = Result (RuleParts × List ℕ) ConfigError in
    let given : Bytes → ℕ → List ℕ → List ℕ → Bytes → R = λ name code sources sinks message. Ok (record { name = name; code = code; sources = sources; sinks = sinks; message = message }, known ++ code ∷ []) in
    let at_message : Bytes → ℕ → List ℕ → List ℕ → R = λ name code sources sinks. field_read (codes "message_format") d >>= λ value. text_read value >>= given name code sources sinks in
    let at_sinks : Bytes → ℕ → List ℕ → R = λ name code sources. field_read (codes "sinks") d >>= λ value. numbers_read (length from) to value >>= at_message name code sources in
    let at_sources : Bytes → ℕ → R = λ name code. field_read (codes "sources") d >>= λ value. numbers_read 0 from value >>= at_sinks name code in
    let tested : Bytes → ℕ → R = λ name code. check (list_any (λ c. code == c) known) CodeTwice >>= λ _. at_sources name code in
    let at_code : Bytes → R = λ name. field_read (codes "code") d >>= λ value. code_read value >>= tested name in
    let is_new : ℕ → List ConfigError = λ code. fault_if (list_any (λ c. code == c) (codes_of before)) CodeTwice in
    let f4 : List ConfigError = required (codes "message_format") text_faults d ++ [] in
    let f3 : List ConfigError = required (codes "sinks") (known_faults to) d ++ f4 in
    let f2 : List ConfigError = required (codes "sources") (known_faults from) d ++ f3 in
    let f1 : List ConfigError = required (codes "code") (typed as_code is_new) d ++ f2 in
    more_object (as_object d) _ _ Q
    (more_or (get (codes "name") d) Missing (λ value. text_read value >>= at_code) text_faults f1 Q (λ name_value name_at.
    more_or (as_str name_value) WrongType at_code (λ _. []) f1 Q (λ name name_is.
    more_or (get (codes "code") d) Missing (λ value. code_read value >>= tested name) (typed as_code is_new) f2 Q (λ code_value code_at.
    more_or (as_code code_value) WrongType (tested name) is_new f2 Q (λ code code_is.
    rw (← are) (more_check (list_any (λ c. code == c) known) CodeTwice (at_sources name code) f2 Q (λ new.
    more_or (get (codes "sources") d) Missing (λ value. numbers_read 0 from value >>= at_sinks name code) (known_faults from) f3 Q (λ from_value from_at.
    agrees_then (numbers_read 0 from from_value) (at_sinks name code) (known_faults from from_value) f3 _ Q (known_law 0 from from_value from_kinds) (λ sources _ from_are.
    more_or (get (codes "sinks") d) Missing (λ value. numbers_read (length from) to value >>= at_message name code sources) (known_faults to) f4 Q (λ to_value to_at.
    agrees_then (numbers_read (length from) to to_value) (at_message name code sources) (known_faults to to_value) f4 _ Q (known_law (length from) to to_value to_kinds) (λ sinks _ to_are.
    more_or (get (codes "message_format") d) Missing (λ value. text_read value >>= given name code sources sinks) text_faults [] Q (λ message_value message_at.
    more_or (as_str message_value) WrongType (given name code sources sinks) (λ _. []) [] Q (λ message message_is. (
      refl,
      record {
        code = ap (option_and_then as_code) code_at ∙ code_is;
        known = refl;
        new = new;
        parts = λ few. rule_is from to d name code sources sinks message
            (text_found (codes "name") d name_value name name_at name_is)
            (ap (option_and_then as_code) code_at ∙ code_is)
            (from_are (omega (arith, few)) ∙ ap (numbers_of 0 from) (list_found (codes "sources") d from_value from_at))
            (to_are few ∙ ap (numbers_of (length from) to) (list_found (codes "sinks") d to_value to_at))
            (text_found (codes "message_format") d message_value message message_at message_is);
      },
    ))))))))))))))

-- rules that were read without a fault
record AreRules (from to : List Bytes) (before : List Data) (read : List RuleParts × List ℕ) : Type 0 where
  pub codes : read.1 ≡ codes_of before
  pub same : map (λ r. r.code) read.0 ≡ read.1
  pub differ : IsDistinct ◌==◌ read.1
  pub rules : length from + length to ≤ 255 → read.0 ≡ map (rule_of from to) before

rules_more : (from to : List Bytes) (before : List Data) (d : Data) (s p : List RuleParts × List ℕ) (rule : RuleParts) → AreRules from to before s → IsRule from to s.1 d (rule, p.1)
    → p.0 ≡ s.0 ++ rule ∷ [] → AreRules from to (before ++ d ∷ []) p
rules_more from to before d s p rule are is added =
    let one : p.1 ≡ s.1 ++ rule.code ∷ [] = is.known in
    let coded : codes_of (before ++ d ∷ []) ≡ codes_of before ++ rule.code ∷ [] = filter_map-append (code_at (codes "code")) before (d ∷ []) ∙ rw is.code refl in
    record {
      codes = one ∙ ap (λ (ks : List ℕ). ks ++ rule.code ∷ []) are.codes ∙ sym coded;
      same = ap (map (λ r. r.code)) added ∙ map-append (λ (r : RuleParts). r.code) s.0 (rule ∷ []) ∙ ap (λ (ks : List ℕ). ks ++ rule.code ∷ []) are.same ∙ sym one;
      differ = rw one (IsDistinct-push nat_eq_equiv s.1 rule.code are.differ is.new);
      rules = λ few.
          added ∙ ap (λ (rs : List RuleParts). rs ++ rule ∷ []) (are.rules few) ∙ ap (λ (r : RuleParts). map (rule_of from to) before ++ r ∷ []) (is.parts few)
          ∙ sym (map-append (rule_of from to) before (d ∷ []));
    }

step_law : (from to : List Bytes) → list_all is_kind from ≡ true → list_all is_kind to ≡ true → (before : List Data) (d : Data) (s : List RuleParts × List ℕ) → AreRules from to before s
    → Agrees (rule_step from to s d) (rule_faults from to before d) (AreRules from to (before ++ d ∷ []))
step_law from to from_kinds to_kinds before d s are =
    agrees_map (rule_read from to s.1 d) (λ p. (s.0 ++ p.0 ∷ [], p.1)) (rule_faults from to before d) (IsRule from to s.1 d) (AreRules from to (before ++ d ∷ []))
    (rule_law from to before s.1 d from_kinds to_kinds are.codes) (λ p is. rules_more from to before d s (s.0 ++ p.0 ∷ [], p.1) p.0 are is refl)

pub rules_law : (from to : List Bytes) (d : Data) → list_all is_kind from ≡ true → list_all is_kind to ≡ true
    → Agrees (rules_read from to d) (in_list (rule_faults from to) d) (λ rs. IsDistinct ◌==◌ (map (λ r. r.code) rs) × (length from + length to ≤ 255 → rs ≡ map (rule_of from to) (values_in d)))
unfolding rules_read
rules_law from to d from_kinds to_kinds =
    let Q : List RuleParts → Type 0 = λ rs. IsDistinct ◌==◌ (map (λ r. r.code) rs) × (length from + length to ≤ 255 → rs ≡ map (rule_of from to) (values_in d)) in
    let faults : List Data → List ConfigError = each_after (rule_faults from to) [] in
    agrees_map (ok_or (as_list d) WrongType >>= fold_read (rule_step from to) ([], [])) (λ s. s.0) (in_list (rule_faults from to) d) (AreRules from to (values_in d)) Q
    (agrees_or (as_list d) WrongType (fold_read (rule_step from to) ([], [])) faults (AreRules from to (values_in d)) (λ ds is.
    rw is (agrees_each (rule_step from to) (rule_faults from to) (AreRules from to) (step_law from to from_kinds to_kinds) ds [] ([], []) (record { codes = refl; same = refl; differ = none_twice ◌==◌; rules = λ few. refl }))))
    (λ s are. (rw are.same are.differ, are.rules))
