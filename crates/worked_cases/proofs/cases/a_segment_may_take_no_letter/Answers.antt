-- The listing is shown beside others.
use Rattle.worked_cases.proofs.SmallListings.{listing_of_naagacchati}
use Rattle.worked_cases.proofs.cases.a_segment_may_take_no_letter.Goals as goal

pub returns-clause-listing : goal.returns-clause-listing
returns-clause-listing c = listing_of_naagacchati
