-- The page has the first answers of all fronts before that where the search stands; each block lists more answers, or is the last.
use Rattle.std.proofs.Common.{◌+◌, ◌-◌, ◌*◌, if◌then◌else◌, length}
use Rattle.search_split.proofs.BlocksListed.{IsSoFar}
use Rattle.search_split.proofs.paging.list_page.Given as goal

abbrev pub invariant-loop-more : goal.invariant-loop-more
invariant-loop-more g l =
    IsSoFar l.lister.lexicon.now l.lister.line.now l.lister.choices.now l.lister.depth l.lister.limit l.page l.search l.passed l.more

abbrev pub decreases-loop-more : goal.decreases-loop-more
decreases-loop-more g l = 2 * (l.lister.limit - length l.page.texts.items) + (if l.more then 1 else 0)
