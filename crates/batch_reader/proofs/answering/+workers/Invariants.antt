-- Each worker that is begun leaves one less to begin.
use Rattle.std.proofs.Common.{◌+◌, ◌*◌}
use Rattle.batch_reader.proofs.answering.+workers.Given as goal

abbrev pub decreases-find_by_workers : goal.decreases-find_by_workers
decreases-find_by_workers g l = 2 * l.workers

abbrev pub decreases-find_others : goal.decreases-find_others
decreases-find_others g l = 2 * l.fewer + 1
