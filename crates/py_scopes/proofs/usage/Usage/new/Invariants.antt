use Rattle.std.proofs.Common.{◌≡◌, drop}
use Rattle.indexmap.specs.IndexMap.{get}
use Rattle.rv_names.specs.Keys.{Bytes, bytes_equal}
use Rattle.py_scopes.specs.Kept.{kept, kept_in, both_kept}
use Rattle.py_scopes.proofs.usage.Usage.new.Given as goal

abbrev pub invariant-loop-used : goal.invariant-loop-used
invariant-loop-used l = (n : Bytes) → both_kept (kept (get bytes_equal l.names n)) (kept_in n (drop l.used-index l.used-items)) ≡ kept_in n l.fn.uses
