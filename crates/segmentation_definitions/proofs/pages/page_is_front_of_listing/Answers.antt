-- The front of the listing is a page, and there is one page at most.
use Rattle.segmentation_definitions.proofs.Listings.{same_as_front}
use Rattle.segmentation_definitions.proofs.pages.page_is_front_of_listing.Goals as goal

pub returns : goal.returns
returns c = same_as_front
