-- By the lemmas on the places of the program's steps.
use Rattle.derivation.proofs.PlacedSteps.{same_places, same_keys}
use Rattle.derivation.proofs.laws.steps_keep_places_and_keys.Goals as goal

pub returns-clause-places : goal.returns-clause-places
returns-clause-places c = same_places

pub returns-clause-keys : goal.returns-clause-keys
returns-clause-keys c = same_keys
