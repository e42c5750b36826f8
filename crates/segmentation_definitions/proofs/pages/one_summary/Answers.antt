-- Both summaries are strictly sorted, and have the same items.
use Rattle.segmentation_definitions.proofs.ItemOrder.{compare_items_total}
use Rattle.list_laws.proofs.Sorted.{same_sorted}
use Rattle.segmentation_definitions.proofs.pages.one_summary.Goals as goal

pub returns : goal.returns
returns c lexicon line choices left right p q =
    same_sorted compare_items_total left right p.rising q.rising (λ item m. (q.members item).1 ((p.members item).0 m))
    (λ item m. (p.members item).1 ((q.members item).0 m))
