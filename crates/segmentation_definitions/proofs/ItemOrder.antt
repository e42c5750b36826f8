-- Five total orders, one after the other.
use Rattle.std.specs.Cmp.{IsTotalOrder}
use Rattle.std.proofs.lemmas.Cmp.{nat_cmp_total, nat_list_cmp_total, then_total, on_total}
use Rattle.segmentation_definitions.specs.Items.{Item, after_lead}
use Rattle.segmentation_definitions.specs.Listings.{compare_items}

-- the order of items is total
pub compare_items_total : IsTotalOrder compare_items
compare_items_total =
    then_total (on_total (λ (i : Item). i.at) nat_cmp_total)
    (then_total (on_total (λ (i : Item). after_lead i.lead) nat_cmp_total)
    (then_total (on_total (λ (i : Item). i.phase) nat_cmp_total)
    (then_total (on_total (λ (i : Item). i.form) nat_list_cmp_total) (on_total (λ (i : Item). i.lead) nat_cmp_total))))
