use Rattle.std.proofs.Common.{◌≡◌, take}
use Rattle.rv_names.proofs.qualified.QNameClone.clone.Given as goal

abbrev pub invariant-loop-name : goal.invariant-loop-name
invariant-loop-name l = l.parts.items ≡ take l.name-index l.name-items
