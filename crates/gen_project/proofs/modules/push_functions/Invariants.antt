use Rattle.std.proofs.Common.{◌≡◌, ◌++◌, ◌-◌}
use Rattle.std.specs.String.{string_bytes}
use Rattle.gen_project.specs.Joined.{joined}
use Rattle.gen_project.specs.Modules.{function_at}
use Rattle.gen_project.proofs.modules.push_functions.Given as goal

abbrev pub invariant-loop-index : goal.invariant-loop-index
invariant-loop-index l = record {
  text : string_bytes l.text ≡ string_bytes l.initial.text
      ++ joined (function_at l.initial.draws.number l.size) l.first (l.index - l.first);
  place : l.draws.taken ≡ l.index;
  number : l.draws.number ≡ l.initial.draws.number;
}
