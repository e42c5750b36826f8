-- Each worker that is begun leaves one less to begin.
use Rattle.std.proofs.Common.{◌+◌, ◌*◌}
use Rattle.search_split.proofs.workers.+workers.Given as goal

abbrev pub decreases-list_by_workers : goal.decreases-list_by_workers
decreases-list_by_workers g l = 2 * l.workers

abbrev pub decreases-list_others : goal.decreases-list_others
decreases-list_others g l = 2 * l.fewer + 1
