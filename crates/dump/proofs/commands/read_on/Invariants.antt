use Rattle.std.proofs.Common.{◌-◌, ◌≤◌, ◌^◌, vec_len}
use Rattle.dump.proofs.commands.read_on.Given as goal

abbrev pub invariant-loop-bytes : goal.invariant-loop-bytes
invariant-loop-bytes g l = (vec_len l.bytes ≤ 2 ^ 31 - 1) × (vec_len l.fn.bytes ≤ vec_len l.bytes)

abbrev pub decreases-loop-bytes : goal.decreases-loop-bytes
decreases-loop-bytes g l = 2 ^ 31 - 1 - vec_len l.bytes
