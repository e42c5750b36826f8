-- No path begins with a key that takes as many letters as a node that was looked at, and what is spent is at most what each such node takes.
use Rattle.std.proofs.Common.{ℕ, ◌+◌, ◌*◌, ◌≤◌, length}
use Rattle.derivation.specs.Steps.{key_meant}
use Rattle.search_frames.specs.Costs.{HasAtMostRules, steps_of_node}
use Rattle.search_frames.specs.Frames.{numbered_of}
use Rattle.search_frames.specs.FirstKeys.{HasNoneOf}
use Rattle.search_frames.proofs.TurnedPhases.{IsDoneFrom}
use Rattle.search_frames.proofs.turning.turn_among_nodes.Given as goal

abbrev pub invariant-loop-taken : goal.invariant-loop-taken
invariant-loop-taken g l = record {
  none : HasNoneOf l.space.lexicon.now l.space.line.now l.space.choices.now (numbered_of l.space.lexicon.now l.place) (IsDoneFrom (key_meant l.from) (length l.nodes) l.taken);
  spent : (most : ℕ) → HasAtMostRules l.space.lexicon.now.tries most → l.steps + l.taken * steps_of_node most ≤ l.fn.steps + length l.nodes * steps_of_node most;
}
