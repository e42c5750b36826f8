-- An answer of the one page that the other has not comes after the other, which is then full.
use Rattle.segmentation_definitions.proofs.Listings.{same_page}
use Rattle.segmentation_definitions.proofs.pages.one_page.Goals as goal

pub returns : goal.returns
returns c = same_page
