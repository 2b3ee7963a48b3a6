use Rattle.std.proofs.Common.{◌≡◌, ◌++◌, take}
use Rattle.pysa_models.proofs.declared.push_names.Given as goal

abbrev pub invariant-loop-name : goal.invariant-loop-name
invariant-loop-name l = l.kinds.items ≡ l.initial.kinds.items ++ take l.name-index l.names
