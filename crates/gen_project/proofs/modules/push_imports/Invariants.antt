use Rattle.std.proofs.Common.{◌≡◌, ◌++◌}
use Rattle.std.specs.String.{string_bytes}
use Rattle.gen_project.specs.Joined.{joined}
use Rattle.gen_project.specs.Modules.{import_line}
use Rattle.gen_project.proofs.modules.push_imports.Given as goal

abbrev pub invariant-loop-other : goal.invariant-loop-other
invariant-loop-other l =
    string_bytes l.text ≡ string_bytes l.initial.text ++ joined (import_line l.own) 0 l.other
