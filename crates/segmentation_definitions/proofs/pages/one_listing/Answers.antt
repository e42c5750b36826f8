-- Both listings are strictly sorted, and have the same answers.
use Rattle.segmentation_definitions.proofs.Listings.{same_listing}
use Rattle.segmentation_definitions.proofs.pages.one_listing.Goals as goal

pub returns : goal.returns
returns c = same_listing
