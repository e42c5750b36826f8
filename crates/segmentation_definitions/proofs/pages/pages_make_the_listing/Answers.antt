-- From the last page to the first: after each page's answers stands the listing above the last of them.
use Rattle.segmentation_definitions.proofs.Listings.{listing_from_pages}
use Rattle.segmentation_definitions.proofs.pages.pages_make_the_listing.Goals as goal

pub returns : goal.returns
returns c lexicon line choices cursor pages last = listing_from_pages lexicon line choices pages cursor last
