-- The frames in use are gone over from the last to the one at the level; under an exact guide each that is left takes one turn.
use Rattle.std.proofs.Common.{ℕ, ◌+◌, ◌-◌, ◌≤◌}
use Rattle.search_frames.specs.Stacks.{depth_of}
use Rattle.search_frames.specs.Guided.{IsExactOf}
use Rattle.search_frames.specs.Costs.{HasAtMostRules}
use Rattle.segmenter.specs.MoveCosts.{steps_of_levels}
use Rattle.segmenter.proofs.FramesAlong.{AreGoneOver}
use Rattle.segmenter.proofs.finding.find_later.Given as goal

abbrev pub invariant-loop-below : goal.invariant-loop-below
invariant-loop-below g l = record {
  over : AreGoneOver l.space.lexicon.now l.space.line.now l.space.choices.now l.initial.stack l.level l.below l.stack;
  spent : IsExactOf l.space.lexicon.now l.space.line.now l.space.choices.now (g.D.Guide.says l.space.guide.now) → (most : ℕ) → HasAtMostRules l.space.lexicon.now.tries most
      → l.steps ≤ l.initial.steps + steps_of_levels l.space.lexicon.now most (depth_of l.initial.stack - l.below);
}

abbrev pub decreases-loop-below : goal.decreases-loop-below
decreases-loop-below g l = l.below
