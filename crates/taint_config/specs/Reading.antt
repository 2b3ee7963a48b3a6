-- Reading a configuration from left to right: what it says, or the first fault that is met.
use Rattle.std.specs.Prelude.{◌≡◌, ◌≢◌, ◌+◌, ◌==◌, ℕ, min, Bool, not, nat_lt, List, [], ◌∷◌, ◌++◌, length, position, codes, if◌then◌else◌, Option, Some, None, is_some, Result, Ok, Err, ⊤}
use Rattle.std.specs.List.{list_any, list_all}
use Rattle.std.specs.Option.{ok_or}
use Rattle.serde_json.specs.Data.{Data}
use Rattle.serde_json.specs.Find.{get, as_str, as_object}
use Rattle.rv_names.specs.Keys.{Bytes, bytes_equal}
use Rattle.taint_config.specs.Kinds.{is_kind}
use Rattle.taint_config.specs.Values.{as_list, as_kind, as_code}
use Rattle.taint_config.specs.Config.{RuleParts}
use Rattle.taint_config.specs.Faults.{json_in}
use Rattle.taint_config.specs.declared.faults.ConfigError.{ConfigError}
use Rattle.taint_config.specs.declared.faults.ConfigError.TheVariants.{NotJson, Missing, WrongType, Twice, UnknownKind, CodeTwice, TooManyKinds, Memory}

infixl 10 ◌>>=◌
abbrev pub ◌>>=◌ : {A B : Type 0} → Result A ConfigError → (A → Result B ConfigError) → Result B ConfigError
(Ok x) >>= f = f x
(Err e) >>= f = Err e

-- What a function returned, seen by view, is what reading gives, unless memory ran out.
abbrev pub Gives : {X Y : Type 0} → (X → Y) → Result X ConfigError → Result Y ConfigError → Type 0
Gives view (Ok x) read = read ≡ Ok (view x)
Gives view (Err e) read = e ≢ Memory → read ≡ Err e

abbrev pub check : Bool → ConfigError → Result ⊤ ConfigError
check fails fault = if fails then Err fault else Ok tt

-- the value that bytes spell as JSON
abbrev pub json_read : List ℕ → Result Data ConfigError
json_read bytes = ok_or (json_in bytes) NotJson

abbrev pub object_read : Data → Result ⊤ ConfigError
object_read d = ok_or (as_object d) WrongType >>= λ _. Ok tt

abbrev pub field_read : Bytes → Data → Result Data ConfigError
field_read key d = ok_or (get key d) Missing

abbrev pub text_read : Data → Result Bytes ConfigError
text_read d = ok_or (as_str d) WrongType

abbrev pub list_read : Data → Result (List Data) ConfigError
list_read d = ok_or (as_list d) WrongType

abbrev pub kind_read : Data → Result Bytes ConfigError
kind_read d = ok_or (as_kind d) WrongType

abbrev pub code_read : Data → Result ℕ ConfigError
code_read d = ok_or (as_code d) WrongType

-- a comment, which may be missing
abbrev pub comment_in : Option Data → Result ⊤ ConfigError
comment_in None = Ok tt
comment_in (Some d) = text_read d >>= λ _. Ok tt

abbrev pub comment_read : Data → Result ⊤ ConfigError
comment_read d = comment_in (get (codes "comment") d)

-- each value in turn takes the state further
abbrev pub fold_read : {S : Type 0} → (S → Data → Result S ConfigError) → S → List Data → Result S ConfigError
fold_read step s [] = Ok s
fold_read step s (d ∷ ds) = step s d >>= λ t. fold_read step t ds

-- a step that adds what is read
abbrev pub push_step : {A : Type 0} → (Data → Result A ConfigError) → List A → Data → Result (List A) ConfigError
push_step read_one xs d = read_one d >>= λ x. Ok (xs ++ x ∷ [])

-- one more source or sink
unfoldable pub kind_step : List Bytes → Data → Result (List Bytes) ConfigError
kind_step kinds d = do
  _ ← object_read d
  value ← field_read (codes "name") d
  name ← kind_read value
  _ ← check (list_any (bytes_equal name) kinds) Twice
  _ ← comment_read d
  Ok (kinds ++ name ∷ [])

abbrev pub kinds_read : Data → Result (List Bytes) ConfigError
kinds_read d = list_read d >>= fold_read kind_step []

unfoldable pub feature_read : Data → Result Bytes ConfigError
feature_read d = do
  _ ← object_read d
  value ← field_read (codes "name") d
  name ← text_read value
  _ ← comment_read d
  Ok name

abbrev pub features_listed : Data → Result (List Bytes) ConfigError
features_listed d = list_read d >>= fold_read (push_step feature_read) []

-- the features, which may be missing
abbrev pub features_in : Option Data → Result (List Bytes) ConfigError
features_in None = Ok []
features_in (Some d) = features_listed d

-- the place of a name, which is one of a source or a sink
abbrev pub place_of : List Bytes → Bytes → Option ℕ
place_of names name = if is_kind name then position (bytes_equal name) names else None

-- the number of a kind, which stands still at the end of the numbers
unfoldable pub number_read : ℕ → List Bytes → Data → Result ℕ ConfigError
number_read first names d = do
  name ← text_read d
  k ← ok_or (place_of names name) UnknownKind
  Ok (min (first + k) 255)

abbrev pub is_text : Data → Bool
is_text d = is_some (as_str d)

abbrev pub strings_read : Data → Result (List Data) ConfigError
strings_read d = do
  ds ← list_read d
  _ ← check (not (list_all is_text ds)) WrongType
  Ok ds

unfoldable pub numbers_read : ℕ → List Bytes → Data → Result (List ℕ) ConfigError
numbers_read first names d = strings_read d >>= fold_read (push_step (number_read first names)) []

-- a rule, and the codes once it has its own
unfoldable pub rule_read : List Bytes → List Bytes → List ℕ → Data → Result (RuleParts × List ℕ) ConfigError
rule_read from to known d = do
  _ ← object_read d
  name_value ← field_read (codes "name") d
  name ← text_read name_value
  code_value ← field_read (codes "code") d
  code ← code_read code_value
  _ ← check (list_any (λ c. code == c) known) CodeTwice
  sources_value ← field_read (codes "sources") d
  sources ← numbers_read 0 from sources_value
  sinks_value ← field_read (codes "sinks") d
  sinks ← numbers_read (length from) to sinks_value
  message_value ← field_read (codes "message_format") d
  message ← text_read message_value
  Ok (record { name = name; code = code; sources = sources; sinks = sinks; message = message }, known ++ code ∷ [])

abbrev pub rule_step : List Bytes → List Bytes → (List RuleParts × List ℕ) → Data → Result (List RuleParts × List ℕ) ConfigError
rule_step from to s d = rule_read from to s.1 d >>= λ p. Ok (s.0 ++ p.0 ∷ [], p.1)

unfoldable pub rules_read : List Bytes → List Bytes → Data → Result (List RuleParts) ConfigError
rules_read from to d = list_read d >>= fold_read (rule_step from to) ([], []) >>= λ s. Ok s.0

-- what a configuration says, without its notes
pub record Parts : Type 0 where
  pub sources : List Bytes
  pub sinks : List Bytes
  pub rules : List RuleParts
  pub features : List Bytes

unfoldable pub parts_read : Data → Result Parts ConfigError
parts_read d = do
  _ ← object_read d
  sources_value ← field_read (codes "sources") d
  sources ← kinds_read sources_value
  sinks_value ← field_read (codes "sinks") d
  sinks ← kinds_read sinks_value
  rules_value ← field_read (codes "rules") d
  rules ← rules_read sources sinks rules_value
  features ← features_in (get (codes "features") d)
  _ ← check (nat_lt 255 (length sources + length sinks)) TooManyKinds
  Ok (record { sources = sources; sinks = sinks; rules = rules; features = features })
