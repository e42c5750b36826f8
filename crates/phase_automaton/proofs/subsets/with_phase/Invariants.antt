-- The positions so far in which the phase is read.
use Rattle.std.proofs.Common.{◌≡◌, ℕ, ◌<◌, ◌↔◌}
use Rattle.phase_automaton.specs.PositionSets.{HasPosition}
use Rattle.phase_automaton.specs.Pieces.{position_at}
use Rattle.phase_automaton.proofs.subsets.with_phase.Given as goal

abbrev pub invariant-loop-number : goal.invariant-loop-number
invariant-loop-number l = (position : ℕ) → HasPosition l.found position
    ↔ (HasPosition l.set position × (position < l.number) × ((position_at l.positions position).phase ≡ l.phase))
