-- No path begins with a way so far that does not come before the first key, and each took two steps at most.
use Rattle.std.proofs.Common.{◌+◌, ◌*◌, ◌≤◌, map}
use Rattle.derivation.specs.Steps.{key_meant}
use Rattle.search_frames.specs.Frames.{numbered_of}
use Rattle.search_frames.specs.FirstKeys.{HasNoneOf}
use Rattle.search_frames.specs.WaysFrom.{key_of_way}
use Rattle.search_frames.proofs.TurnedWays.{IsTriedWay}
use Rattle.search_frames.proofs.way_turns.turn_among_ways.Given as goal

abbrev pub invariant-loop-way : goal.invariant-loop-way
invariant-loop-way g l = record {
  none : HasNoneOf l.space.lexicon.now l.space.line.now l.space.choices.now (numbered_of l.space.lexicon.now l.place) (IsTriedWay (key_meant l.from) (map key_of_way l.ways) l.way-index);
  spent : l.steps ≤ l.fn.steps + 2 * l.way-index;
}
