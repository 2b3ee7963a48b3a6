use Rattle.std.proofs.Common.{◌≡◌, ◌++◌}
use Rattle.serde_json.specs.View.{members_view}
use Rattle.taint_config.specs.Values.{member_keys}
use Rattle.taint_config.specs.Config.{ignored_of}
use Rattle.taint_config.specs.Shapes.{known_keys}
use Rattle.taint_config.proofs.notes.note_members.Given as goal

-- what was noted, and what is still to be noted, is all
abbrev pub invariant-loop-key : goal.invariant-loop-key
invariant-loop-key l =
    l.notes.items ++ ignored_of (known_keys l.shape) (member_keys (members_view l.key-iterator))
    ≡ l.initial.notes.items ++ ignored_of (known_keys l.shape) (member_keys (members_view l.members.entries))
