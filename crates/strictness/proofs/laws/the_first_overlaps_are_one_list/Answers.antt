-- The order is total, so two such lists are the same.
use Rattle.segmentation_definitions.proofs.OverlapOrder.{compare_overlaps_total}
use Rattle.strictness.proofs.OverlapOrder.{one_list}
use Rattle.strictness.proofs.laws.the_first_overlaps_are_one_list.Goals as goal

pub returns-clause-total : goal.returns-clause-total
returns-clause-total c = compare_overlaps_total

pub returns-clause-one : goal.returns-clause-one
returns-clause-one c = one_list
