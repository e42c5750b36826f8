-- So many answers of the front are listed, and the search stands at the next one; the printer prints answers of the line.
use Rattle.std.proofs.Common.{◌≡◌, length}
use Rattle.search_split.specs.Starts.{front_from}
use Rattle.search_split.proofs.PartsListed.{IsListing}
use Rattle.search_split.proofs.listing.list_part.Given as goal

abbrev pub invariant-loop-count : goal.invariant-loop-count
invariant-loop-count g l = record {
  under : IsListing l.lister.lexicon.now l.lister.line.now l.lister.choices.now l.lister.depth (front_from l.lister.depth l.start) l.texts.items l.search;
  count : length l.texts.items ≡ l.count;
  printer : l.printer ≡ record { rules = l.lister.lexicon.now.lexicon.rules; letters = l.lister.line.now.letters };
}
