-- The followers of the positions so far.
use Rattle.std.proofs.Common.{ℕ, ◌<◌, ◌↔◌}
use Rattle.phase_automaton.specs.PositionSets.{HasPosition}
use Rattle.phase_automaton.specs.Pieces.{Follows}
use Rattle.phase_automaton.proofs.subsets.followers.Given as goal

abbrev pub invariant-loop-number : goal.invariant-loop-number
invariant-loop-number l = (position : ℕ) → HasPosition l.followers position
    ↔ ((earlier : ℕ) × (earlier < l.number) × HasPosition l.set earlier × Follows l.positions earlier position)
