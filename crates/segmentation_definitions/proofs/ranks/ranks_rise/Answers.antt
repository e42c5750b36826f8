-- The steps of a derivation stand in their places; the four clauses are lemmas on steps in their places.
use Rattle.segmentation_definitions.proofs.Coverings.{in_place}
use Rattle.segmentation_definitions.proofs.RisingRanks.{ranks_rising, places_within, steps_bounded, keys_within}
use Rattle.segmentation_definitions.proofs.ranks.ranks_rise.Goals as goal

pub returns-clause-rising : goal.returns-clause-rising
returns-clause-rising c lexicon word steps is derives = ranks_rising (in_place lexicon word steps is derives)

pub returns-clause-within : goal.returns-clause-within
returns-clause-within c lexicon word steps is derives = places_within (in_place lexicon word steps is derives)

pub returns-clause-steps : goal.returns-clause-steps
returns-clause-steps c lexicon word steps is derives = steps_bounded lexicon word steps is derives

pub returns-clause-keys : goal.returns-clause-keys
returns-clause-keys c lexicon word steps is derives = keys_within (in_place lexicon word steps is derives)
