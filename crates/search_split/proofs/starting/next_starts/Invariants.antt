-- So many parts are found, and the search stands at the first answer of the next front, wherever it stood at first.
use Rattle.std.proofs.Common.{◌≡◌, length}
use Rattle.search_split.proofs.StartsFound.{IsTaking}
use Rattle.search_split.proofs.starting.next_starts.Given as goal

abbrev pub invariant-loop : goal.invariant-loop
invariant-loop g l = record {
  taking : IsTaking l.depth l.initial.search l.list.items l.search;
  count : length l.list.items ≡ l.counter;
}
