use Rattle.std.proofs.Common.{◌≤◌, ◌-◌, ◌^◌, vec_len}
use Rattle.dump.proofs.commands.count_commands.Given as goal

-- the place lies within the bytes, which are no more than are read at the most
abbrev pub invariant-loop : goal.invariant-loop
invariant-loop g l = (l.at ≤ vec_len l.bytes) × (vec_len l.bytes ≤ 2 ^ 31 - 1)
