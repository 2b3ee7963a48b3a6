-- The random numbers of a project.
use Rattle.std.specs.Prelude.{ℕ, zero, suc, ◌+◌, ◌*◌, ◌%◌, ◌^◌}

-- the linear congruential generator of modulus 2 ^ 64 that Knuth gives for MMIX
abbrev pub next_draw : ℕ → ℕ
next_draw x = (x * 6364136223846793005 + 1442695040888963407) % 2 ^ 64

-- what the generator gives after that many steps from the number
unfoldable pub draw : ℕ → ℕ → ℕ
draw number zero = number
draw number (suc steps) = next_draw (draw number steps)
