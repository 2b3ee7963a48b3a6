use Rattle.std.proofs.Common.{◌≡◌, drop}
use Rattle.serde_json.specs.View.{items_view}
use Rattle.script.specs.Runs.{each, plain_of}
use Rattle.script.proofs.Json.{with_front}
use Rattle.script.proofs.run.values.Given as goal

-- what was read, with what is still to be read, is the whole
abbrev pub invariant-loop-value : goal.invariant-loop-value
invariant-loop-value l = with_front l.values.items (each plain_of (items_view (drop l.value-index l.list))) ≡ each plain_of (items_view l.list)
