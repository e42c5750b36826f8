-- The positions that are linked, one by one.
use Rattle.std.proofs.Common.{◌≡◌, ℕ, ◌<◌, ◌≤◌, ◌↔◌, ◌⊎◌, List, length}
use Rattle.phase_automaton.specs.declared.position_set.PositionSet.{PositionSet}
use Rattle.phase_automaton.specs.declared.position.Position.{Position}
use Rattle.phase_automaton.specs.PositionSets.{HasPosition}
use Rattle.phase_automaton.specs.Pieces.{position_at}

-- the position is linked
pub record IsLinkedPosition (from to : PositionSet) (number : ℕ) (old new : Position) : Type 0 where
  pub phase : new.phase ≡ old.phase
  pub other : (HasPosition from number → ⊥) → new ≡ old
  pub follow : (position : ℕ) → HasPosition new.follow position ↔ (HasPosition old.follow position ⊎ (HasPosition from number × HasPosition to position))

pub record AreLinkedBelow (from to : PositionSet) (number : ℕ) (old new : List Position) : Type 0 where
  pub count : length new ≡ length old
  pub done : (k : ℕ) → k < number → IsLinkedPosition from to k (position_at old k) (position_at new k)
  pub rest : (k : ℕ) → number ≤ k → position_at new k ≡ position_at old k
