-- What a configuration without faults says.
use Rattle.std.specs.Prelude.{ℕ, ◌+◌, ◌==◌, ◌<◌, ◌≤◌, not, List, [], ◌∷◌, ◌++◌, length, map, filter, codes, All, option_and_then, unwrap_or}
use Rattle.std.specs.List.{list_any, filter_map, flat_map, IsDistinct}
use Rattle.serde_json.specs.Data.{Data, null}
use Rattle.serde_json.specs.Find.{as_str}
use Rattle.rv_names.specs.Keys.{Bytes, bytes_equal}
use Rattle.taint_config.specs.Kinds.{number_from}
use Rattle.taint_config.specs.Values.{keys_of, text_at, code_at, list_at}
use Rattle.taint_config.specs.Faults.{names_of, sources_of, sinks_of, json_in}

-- a rule: which sources must not reach which sinks, each by its number, and what is said then
pub record RuleParts : Type 0 where
  pub name : Bytes
  pub code : ℕ
  pub sources : List ℕ
  pub sinks : List ℕ
  pub message : Bytes

pub record ConfigParts : Type 0 where
  pub sources : List Bytes
  pub sinks : List Bytes
  pub features : List Bytes
  pub rules : List RuleParts
  pub notes : List Bytes

-- a number that belongs to a source or a sink; the sinks are numbered after the sources
abbrev pub IsSource : List Bytes → ℕ → Type 0
IsSource sources n = n < length sources

abbrev pub IsSink : List Bytes → List Bytes → ℕ → Type 0
IsSink sources sinks n = (length sources ≤ n) × (n < length sources + length sinks)

-- what holds of every configuration
pub record IsConfig (sources sinks : List Bytes) (rules : List RuleParts) : Type 0 where
  pub few : length sources + length sinks ≤ 255
  pub sources_differ : IsDistinct bytes_equal sources
  pub sinks_differ : IsDistinct bytes_equal sinks
  pub codes_differ : IsDistinct ◌==◌ (map (λ r. r.code) rules)
  pub from_sources : All (λ r. All (IsSource sources) r.sources) rules
  pub to_sinks : All (λ r. All (IsSink sources sinks) r.sinks) rules

-- the numbers of the names in the list at a key
abbrev pub numbers_of : ℕ → List Bytes → List Data → List ℕ
numbers_of first names = filter_map (λ d. option_and_then (number_from first names) (as_str d))

abbrev pub rule_of : List Bytes → List Bytes → Data → RuleParts
rule_of sources sinks d = record {
  name = unwrap_or (text_at (codes "name") d) [];
  code = unwrap_or (code_at (codes "code") d) 0;
  sources = numbers_of 0 sources (list_at (codes "sources") d);
  sinks = numbers_of (length sources) sinks (list_at (codes "sinks") d);
  message = unwrap_or (text_at (codes "message_format") d) [];
}

abbrev pub rules_of : Data → List RuleParts
rules_of d = map (rule_of (sources_of d) (sinks_of d)) (list_at (codes "rules") d)

abbrev pub features_of : Data → List Bytes
features_of d = names_of (list_at (codes "features") d)

-- the keys that are ignored, and those of an object
unfoldable pub ignored_of : List Bytes → List Bytes → List Bytes
ignored_of known = filter (λ key. not (list_any (bytes_equal key) known))

abbrev pub ignored : List Bytes → Data → List Bytes
ignored known d = ignored_of known (keys_of d)

abbrev pub config_keys : List Bytes
config_keys = codes "sources" ∷ codes "sinks" ∷ codes "rules" ∷ codes "features" ∷ []

abbrev pub name_keys : List Bytes
name_keys = codes "name" ∷ codes "comment" ∷ []

abbrev pub rule_keys : List Bytes
rule_keys = codes "name" ∷ codes "code" ∷ codes "sources" ∷ codes "sinks" ∷ codes "message_format" ∷ []

-- the ignored keys: of the configuration, then of each source, sink, rule and feature, and in one object by their bytes
abbrev pub notes_of : Data → List Bytes
notes_of d =
    ignored config_keys d
    ++ flat_map (ignored name_keys) (list_at (codes "sources") d)
    ++ flat_map (ignored name_keys) (list_at (codes "sinks") d)
    ++ flat_map (ignored rule_keys) (list_at (codes "rules") d)
    ++ flat_map (ignored name_keys) (list_at (codes "features") d)

abbrev pub config_of : Data → ConfigParts
config_of d = record {
  sources = sources_of d;
  sinks = sinks_of d;
  features = features_of d;
  rules = rules_of d;
  notes = notes_of d;
}

-- what a file says
abbrev pub file_config : List ℕ → ConfigParts
file_config bytes = config_of (unwrap_or (json_in bytes) null)
