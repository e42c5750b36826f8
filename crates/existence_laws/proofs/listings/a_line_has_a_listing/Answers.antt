-- `listing_above` has the proof.
use Rattle.existence_laws.proofs.ListingsThere.{listing_above}
use Rattle.existence_laws.proofs.listings.a_line_has_a_listing.Goals as goal

pub returns : goal.returns
returns c = λ lexicon line choices cursor is. listing_above lexicon line choices is cursor
