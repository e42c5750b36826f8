-- The first key that differs decides how answers and their fronts compare.
use Rattle.segmentation_definitions.specs.Listings.{keys_of}
use Rattle.front_definitions.proofs.KeyListFronts.{together, smaller_front, front_less}
use Rattle.front_definitions.proofs.laws.answers_of_a_front_stand_together.Goals as goal

pub returns-clause-together : goal.returns-clause-together
returns-clause-together c = together

pub returns-clause-in_order : goal.returns-clause-in_order
returns-clause-in_order c rules depth left right = (
  smaller_front rules depth left right,
  λ apart. front_less depth (keys_of rules left) (keys_of rules right) apart.0 apart.1,
)
