-- `compare_items_total` has the proof.
use Rattle.segmentation_definitions.proofs.ItemOrder.{compare_items_total}
use Rattle.segmentation_definitions.proofs.orders.items_are_ordered.Goals as goal

pub returns : goal.returns
returns c = compare_items_total
