-- By the first two answers of the list.
use Rattle.note_definitions.proofs.OneOutcome.{outcome_listed}
use Rattle.note_definitions.proofs.laws.the_outcome_is_that_of_the_listing.Goals as goal

pub returns : goal.returns
returns c = outcome_listed
