-- The listing is shown beside others.
use Rattle.worked_cases.proofs.SmallListings.{listing_of_naasti}
use Rattle.worked_cases.proofs.cases.the_smaller_rule_is_first.Goals as goal

pub returns : goal.returns
returns c = listing_of_naasti
