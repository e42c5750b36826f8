-- The keys are gone along from the first to the last.
use Rattle.std.proofs.Common.{length}
use Rattle.segmenter.proofs.keyed.+find_keys.Given as goal

abbrev pub decreases-find_keys : goal.decreases-find_keys
decreases-find_keys g l = length l.keys.now
