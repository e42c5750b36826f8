-- Sets of positions as the bits of a number.
use Rattle.std.specs.Prelude.{◌≡◌, ℕ}
use Rattle.std.specs.Int.{bit_at}
use Rattle.phase_automaton.specs.declared.position_set.PositionSet.{PositionSet}

-- the position is in the set
abbrev pub HasPosition : PositionSet → ℕ → Type 0
HasPosition set position = bit_at set.bits position ≡ 1
