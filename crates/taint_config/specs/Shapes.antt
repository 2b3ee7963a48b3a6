-- The keys of the objects of a configuration.
use Rattle.std.specs.Prelude.{List}
use Rattle.rv_names.specs.Keys.{Bytes}
use Rattle.taint_config.specs.Config.{config_keys, name_keys, rule_keys}
use Rattle.taint_config.specs.declared.notes.Shape.{Shape}
use Rattle.taint_config.specs.declared.notes.Shape.TheVariants as shapes

abbrev pub known_keys : Shape → List Bytes
known_keys shapes.Config = config_keys
known_keys shapes.Named = name_keys
known_keys shapes.Rule = rule_keys
