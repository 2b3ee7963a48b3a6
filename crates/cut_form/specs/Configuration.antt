-- The one configuration of the cut form: a source, a sink, and the rule that joins them.
use Rattle.std.specs.Prelude.{ℕ, ◌==◌, ◌&&◌, Bool, true, false, List, [], ◌∷◌, codes}
use Rattle.rv_names.specs.Keys.{Bytes, bytes_equal}
use Rattle.taint_config.specs.Config.{ConfigParts, RuleParts}

abbrev pub source_kind : Bytes
source_kind = codes "UserControlled"

abbrev pub sink_kind : Bytes
sink_kind = codes "RemoteCodeExecution"

abbrev pub is_empty : {A : Type 0} → List A → Bool
is_empty [] = true
is_empty (x ∷ xs) = false

-- there is one text, and it is this
abbrev pub is_only : Bytes → List Bytes → Bool
is_only text (x ∷ []) = bytes_equal x text
is_only text _ = false

abbrev pub is_only_number : ℕ → List ℕ → Bool
is_only_number number (n ∷ []) = n == number
is_only_number number _ = false

-- the source has the number 0, and the sink the number 1
abbrev pub is_rule : RuleParts → Bool
is_rule r = bytes_equal r.name (codes "Possible RCE") && r.code == 5001 && is_only_number 0 r.sources && is_only_number 1 r.sinks
    && bytes_equal r.message (codes "Data from {$sources} may reach {$sinks}")

abbrev pub are_rules : List RuleParts → Bool
are_rules (r ∷ []) = is_rule r
are_rules _ = false

-- no feature, and no key that is ignored
unfoldable pub is_config : ConfigParts → Bool
is_config c = is_only source_kind c.sources && is_only sink_kind c.sinks && is_empty c.features && are_rules c.rules && is_empty c.notes
