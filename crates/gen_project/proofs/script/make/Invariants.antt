use Rattle.std.proofs.Common.{◌≡◌, ◌*◌, ◌++◌, min}
use Rattle.std.specs.String.{string_bytes}
use Rattle.gen_project.specs.Joined.{joined}
use Rattle.gen_project.specs.Script.{put_fixed, put_module}
use Rattle.gen_project.proofs.script.make.Given as goal

abbrev pub invariant-loop-own : goal.invariant-loop-own
invariant-loop-own l = record {
  text : string_bytes l.script ≡ put_fixed ++ joined (put_module l.number l.size) 0 l.own;
  place : l.draws.taken ≡ min (50 * l.own) l.size;
  number : l.draws.number ≡ l.number;
}
