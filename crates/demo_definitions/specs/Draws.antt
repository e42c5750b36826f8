-- Numbers drawn one after another from a first number, the seed (a linear congruential generator with Knuth's constants for
-- MMIX).
use Rattle.std.specs.Prelude.{ℕ, zero, suc, ◌+◌, ◌*◌, ◌/◌, ◌%◌, ◌^◌}

-- the seed after a draw
abbrev pub next_seed : ℕ → ℕ
next_seed seed = (seed * 6364136223846793005 + 1442695040888963407) % 2 ^ 64

-- the seed after so many draws
unfoldable pub seed_after : ℕ → ℕ → ℕ
seed_after seed zero = seed
seed_after seed (suc count) = next_seed (seed_after seed count)

-- what a draw gives at this seed: one of so many numbers, counted from 0
abbrev pub drawn_of : ℕ → ℕ → ℕ
drawn_of count seed = (next_seed seed / 2 ^ 33) % count
