-- `page_there` has the proof.
use Rattle.existence_laws.proofs.ListingsThere.{page_there}
use Rattle.existence_laws.proofs.listings.a_line_has_a_page.Goals as goal

pub returns : goal.returns
returns c = λ lexicon line choices cursor count is. page_there lexicon line choices is cursor count
