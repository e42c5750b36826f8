-- No path begins with a key of the phases so far, and each took fewer than the steps of a phase.
use Rattle.std.proofs.Common.{◌≡◌, ℕ, ◌+◌, ◌-◌, ◌*◌, ◌≤◌, length}
use Rattle.derivation.specs.Steps.{key_meant}
use Rattle.search_frames.specs.Costs.{HasAtMostRules, steps_of_phase}
use Rattle.search_frames.specs.Frames.{numbered_of}
use Rattle.search_frames.specs.FirstKeys.{HasNoneOf}
use Rattle.search_frames.proofs.TurnedPhases.{IsPassedFrom}
use Rattle.search_frames.proofs.turning.turn_by_walking.Given as goal

abbrev pub invariant-loop-phase : goal.invariant-loop-phase
invariant-loop-phase g l = record {
  none : HasNoneOf l.space.lexicon.now l.space.line.now l.space.choices.now (numbered_of l.space.lexicon.now l.place) (IsPassedFrom (key_meant l.fn.from) l.phase);
  room : length l.nodes.items ≡ length l.fn.nodes.items;
  after : l.fn.from.phase ≤ l.phase;
  spent : (most : ℕ) → HasAtMostRules l.space.lexicon.now.tries most → l.steps + (l.phase - l.fn.from.phase) ≤ l.fn.steps + l.phase * steps_of_phase most;
}
