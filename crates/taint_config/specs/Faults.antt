-- The faults of a configuration, all of them, in the order in which they are told.
use Rattle.std.specs.Prelude.{ℕ, ◌+◌, ◌==◌, Bool, not, nat_lt, List, [], ◌∷◌, ◌++◌, length, codes, Option, Some, None, if◌then◌else◌}
use Rattle.std.specs.List.{list_any, filter_map, flat_map}
use Rattle.std.specs.Str.{is_utf8}
use Rattle.serde_json.specs.Data.{Data}
use Rattle.serde_json.specs.Find.{get, as_str, as_object}
use Rattle.serde_json.specs.Read.{read}
use Rattle.rv_names.specs.Keys.{Bytes, bytes_equal}
use Rattle.taint_config.specs.Values.{as_list, as_kind, as_code, text_at, code_at, list_at}
use Rattle.taint_config.specs.declared.faults.ConfigError.{ConfigError}
use Rattle.taint_config.specs.declared.faults.ConfigError.TheVariants.{NotJson, Missing, WrongType, Twice, UnknownKind, CodeTwice, TooManyKinds}

-- the faults of what is there, or else those of its absence
abbrev pub faults_or : {A : Type 0} → List ConfigError → (A → List ConfigError) → Option A → List ConfigError
faults_or absent faults None = absent
faults_or absent faults (Some x) = faults x

-- a value that is no such type has that one fault
abbrev pub typed : {A : Type 0} → (Data → Option A) → (A → List ConfigError) → Data → List ConfigError
typed as_type faults d = faults_or (WrongType ∷ []) faults (as_type d)

-- a field that each such object has, and one that it may have
abbrev pub required : Bytes → (Data → List ConfigError) → Data → List ConfigError
required key faults d = faults_or (Missing ∷ []) faults (get key d)

abbrev pub optional : Bytes → (Data → List ConfigError) → Data → List ConfigError
optional key faults d = faults_or [] faults (get key d)

-- the fault, where the test holds
abbrev pub fault_if : Bool → ConfigError → List ConfigError
fault_if holds fault = if holds then fault ∷ [] else []

-- one after the other
abbrev pub together : List (List ConfigError) → List ConfigError
together [] = []
together (faults ∷ more) = faults ++ together more

-- an object, with the faults of its fields
abbrev pub in_object : (Data → List ConfigError) → Data → List ConfigError
in_object faults d = typed as_object (λ _. faults d) d

-- any string
abbrev pub text_faults : Data → List ConfigError
text_faults = typed as_str (λ _. [])

-- the values of a list, each told those before it
abbrev pub each_after : (List Data → Data → List ConfigError) → List Data → List Data → List ConfigError
each_after faults before [] = []
each_after faults before (d ∷ ds) = faults before d ++ each_after faults (before ++ d ∷ []) ds

abbrev pub in_list : (List Data → Data → List ConfigError) → Data → List ConfigError
in_list faults = typed as_list (each_after faults [])

-- the names of sources, sinks or features
abbrev pub names_of : List Data → List Bytes
names_of = filter_map (text_at (codes "name"))

-- a source or a sink, whose name no earlier one has
abbrev pub kind_faults : List Data → Data → List ConfigError
kind_faults before = in_object (λ d. together (
    required (codes "name") (typed as_kind (λ name. fault_if (list_any (bytes_equal name) (names_of before)) Twice)) d
    ∷ optional (codes "comment") text_faults d
    ∷ []))

-- a feature, whose name may be repeated
abbrev pub feature_faults : List Data → Data → List ConfigError
feature_faults before = in_object (λ d. together (required (codes "name") text_faults d ∷ optional (codes "comment") text_faults d ∷ []))

-- the sources or the sinks of a rule: strings first of all, and then names that are known
abbrev pub known_faults : List Bytes → Data → List ConfigError
known_faults known = typed as_list (λ ds. together (
    flat_map text_faults ds
    ∷ flat_map (λ name. fault_if (not (list_any (bytes_equal name) known)) UnknownKind) (filter_map as_str ds)
    ∷ []))

-- the codes of rules
abbrev pub codes_of : List Data → List ℕ
codes_of = filter_map (code_at (codes "code"))

-- a rule, whose code no earlier one has
abbrev pub rule_faults : List Bytes → List Bytes → List Data → Data → List ConfigError
rule_faults sources sinks before = in_object (λ d. together (
    required (codes "name") text_faults d
    ∷ required (codes "code") (typed as_code (λ code. fault_if (list_any (λ c. code == c) (codes_of before)) CodeTwice)) d
    ∷ required (codes "sources") (known_faults sources) d
    ∷ required (codes "sinks") (known_faults sinks) d
    ∷ required (codes "message_format") text_faults d
    ∷ []))

abbrev pub sources_of : Data → List Bytes
sources_of d = names_of (list_at (codes "sources") d)

abbrev pub sinks_of : Data → List Bytes
sinks_of d = names_of (list_at (codes "sinks") d)

-- a configuration: its lists one after the other, and then the number of its kinds
abbrev pub config_faults : Data → List ConfigError
config_faults = in_object (λ d. together (
    required (codes "sources") (in_list kind_faults) d
    ∷ required (codes "sinks") (in_list kind_faults) d
    ∷ required (codes "rules") (in_list (rule_faults (sources_of d) (sinks_of d))) d
    ∷ optional (codes "features") (in_list feature_faults) d
    ∷ fault_if (nat_lt 255 (length (sources_of d) + length (sinks_of d))) TooManyKinds
    ∷ []))

-- the value that bytes spell as JSON in UTF-8 (RFC 8259), where they spell one
unfoldable pub json_in : List ℕ → Option Data
json_in bytes = if is_utf8 bytes then read bytes else None

-- the faults of a file
abbrev pub file_faults : List ℕ → List ConfigError
file_faults bytes = faults_or (NotJson ∷ []) config_faults (json_in bytes)

abbrev pub first_fault : List ConfigError → Option ConfigError
first_fault [] = None
first_fault (fault ∷ faults) = Some fault
