-- How a fault is printed.
use Rattle.std.specs.Prelude.{ℕ, List, codes}
use Rattle.taint_config.specs.declared.faults.ConfigError.{ConfigError}
use Rattle.taint_config.specs.declared.faults.ConfigError.TheVariants.{NotJson, Missing, WrongType, Twice, UnknownKind, CodeTwice, TooManyKinds, Memory}

abbrev pub error_name : ConfigError → List ℕ
error_name NotJson = codes "NotJson"
error_name Missing = codes "Missing"
error_name WrongType = codes "WrongType"
error_name Twice = codes "Twice"
error_name UnknownKind = codes "UnknownKind"
error_name CodeTwice = codes "CodeTwice"
error_name TooManyKinds = codes "TooManyKinds"
error_name Memory = codes "Memory"
