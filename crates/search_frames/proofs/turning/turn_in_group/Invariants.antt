-- No path begins with a key of the rules so far, each of which took two steps at most.
use Rattle.std.proofs.Common.{◌+◌, ◌*◌, ◌≤◌}
use Rattle.derivation.specs.Steps.{key_meant}
use Rattle.search_frames.specs.Frames.{numbered_of}
use Rattle.search_frames.specs.FirstKeys.{HasNoneOf}
use Rattle.search_frames.proofs.TriedRules.{IsTriedRule}
use Rattle.search_frames.proofs.turning.turn_in_group.Given as goal

abbrev pub invariant-loop-rule : goal.invariant-loop-rule
invariant-loop-rule g l = record {
  none : HasNoneOf l.space.lexicon.now l.space.line.now l.space.choices.now (numbered_of l.space.lexicon.now l.place) (IsTriedRule (key_meant l.from) l.rules l.rule-index);
  spent : l.steps ≤ l.fn.steps + 1 + 2 * l.rule-index;
}
