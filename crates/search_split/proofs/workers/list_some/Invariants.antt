-- What is listed so far is right.
use Rattle.search_split.specs.Listing.{AreFound}
use Rattle.search_split.proofs.workers.list_some.Given as goal

abbrev pub invariant-loop : goal.invariant-loop
invariant-loop g l = AreFound l.lister.lexicon.now l.lister.line.now l.lister.choices.now l.lister.depth l.block.starts.items l.found.items
