-- A search goes deeper to places of higher rank, and at one place from key to key; under an exact guide it turns once at each place.
use Rattle.std.proofs.Common.{◌≡◌, ◌+◌, ◌-◌, ◌*◌, length}
use Rattle.search_frames.specs.Frames.{numbered_of, here_of, key_at}
use Rattle.search_frames.specs.Guided.{IsExactOf}
use Rattle.search_frames.specs.Reached.{rank}
use Rattle.search_frames.specs.Turns.{keys_left}
use Rattle.segmenter.proofs.PathsFound.{IsUnderWay}
use Rattle.segmenter.proofs.finding.+find.Given as goal

abbrev pub decreases-find_first : goal.decreases-find_first
decreases-find_first g l = 2 * (2 * length l.space.now.line.now.letters + 2 - rank (numbered_of l.space.now.lexicon.now l.place)) + 1

abbrev pub decreases-find_next : goal.decreases-find_next
decreases-find_next g l = 2 * (2 * length l.space.now.line.now.letters + 2 - rank (here_of l.space.now.lexicon.now l.stack.now l.level))

abbrev pub invariant-find_next-loop-stack : goal.invariant-find_next-loop-stack
invariant-find_next-loop-stack g l = record {
  under : IsUnderWay l.space.lexicon.now l.space.line.now l.space.choices.now l.level l.initial.stack l.initial.to_try l.stack l.to_try;
  spent : IsExactOf l.space.lexicon.now l.space.line.now l.space.choices.now (g.D.Guide.says l.space.guide.now) → l.steps ≡ l.initial.steps;
}

abbrev pub decreases-find_next-loop-stack : goal.decreases-find_next-loop-stack
decreases-find_next-loop-stack g l = keys_left l.space.lexicon.now (key_at l.stack l.level) l.to_try
