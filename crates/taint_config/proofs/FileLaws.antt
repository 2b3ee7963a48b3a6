-- A file: its value, and what is told of it.
use Rattle.std.proofs.Common.{◌≡◌, ℕ, Bool, true, false, cond, List, [], ◌∷◌, Option, Some, None, Ok, Err, refl, ap, ◌∙◌}
use Rattle.std.specs.Prelude.{unwrap_or}
use Rattle.std.specs.Option.{ok_or}
use Rattle.std.specs.Str.{IsUtf8, is_utf8}
use Rattle.std.proofs.lemmas.Str.{is_utf8-from_IsUtf8, IsUtf8-from_is_utf8}
use Rattle.serde_json.specs.Data.{Data, null}
use Rattle.serde_json.specs.Read.{read}
use Rattle.taint_config.specs.declared.faults.ConfigError.{ConfigError}
use Rattle.taint_config.specs.declared.faults.ConfigError.TheVariants.{NotJson}
use Rattle.taint_config.specs.Config.{config_of, file_config}
use Rattle.taint_config.specs.Faults.{faults_or, json_in, config_faults, file_faults, first_fault}
use Rattle.taint_config.specs.Reading.{json_read}

pub json_given : (bytes : List ℕ) (d : Data) → IsUtf8 bytes → read bytes ≡ Some d → json_read bytes ≡ Ok d
unfolding json_in
json_given bytes d text e = ap (λ (t : Bool). ok_or (cond t (read bytes) None) NotJson) (is_utf8-from_IsUtf8 bytes text) ∙ ap (λ (o : Option Data). ok_or o NotJson) e

refused_as : (bytes : List ℕ) (b : Bool) (e : IsUtf8 bytes → read bytes ≡ None) → is_utf8 bytes ≡ b → ok_or (cond b (read bytes) None) NotJson ≡ Err NotJson
refused_as bytes true e is = ap (λ (o : Option Data). ok_or o NotJson) (e (IsUtf8-from_is_utf8 bytes is))
refused_as bytes false e is = refl

pub json_refused : (bytes : List ℕ) → (IsUtf8 bytes → read bytes ≡ None) → json_read bytes ≡ Err NotJson
unfolding json_in
json_refused bytes e = refused_as bytes (is_utf8 bytes) e refl

-- a file whose value is known
given_by : (o : Option Data) (d : Data) → ok_or o NotJson ≡ Ok d → o ≡ Some d
given_by None d e = absurd cc
given_by (Some x) d e = cc

none_by : (o : Option Data) (e : ConfigError) → ok_or o NotJson ≡ Err e → first_fault (faults_or (NotJson ∷ []) config_faults o) ≡ Some e
none_by None e h = cc
none_by (Some x) e h = absurd cc

pub faults_given : (bytes : List ℕ) (d : Data) → json_read bytes ≡ Ok d → file_faults bytes ≡ config_faults d
faults_given bytes d e = ap (faults_or (NotJson ∷ []) config_faults) (given_by (json_in bytes) d e)

pub config_given : (bytes : List ℕ) (d : Data) → json_read bytes ≡ Ok d → file_config bytes ≡ config_of d
config_given bytes d e = ap (λ (o : Option Data). config_of (unwrap_or o null)) (given_by (json_in bytes) d e)

pub fault_given : (bytes : List ℕ) (e : ConfigError) → json_read bytes ≡ Err e → first_fault (file_faults bytes) ≡ Some e
fault_given bytes e h = none_by (json_in bytes) e h
