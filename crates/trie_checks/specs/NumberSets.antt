-- Sets of numbers below 64, told by the bits of a number.
use Rattle.std.specs.Prelude.{◌≡◌, ℕ}
use Rattle.std.specs.Int.{bit_at}

-- the number n is in the set
unfoldable pub HasNumber : ℕ → ℕ → Type 0
HasNumber set n = bit_at set n ≡ 1
