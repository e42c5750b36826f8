-- Four total orders, one after the other.
use Rattle.std.specs.Cmp.{IsTotalOrder}
use Rattle.std.proofs.lemmas.Cmp.{nat_cmp_total, nat_list_cmp_total, then_total, on_total}
use Rattle.segmentation_definitions.specs.Overlaps.{Overlap, compare_overlaps}

-- the order of overlaps is total
pub compare_overlaps_total : IsTotalOrder compare_overlaps
compare_overlaps_total =
    then_total (on_total (λ (o : Overlap). o.phase) nat_cmp_total)
    (then_total (on_total (λ (o : Overlap). o.form) nat_list_cmp_total)
    (then_total (on_total (λ (o : Overlap). o.before) nat_cmp_total) (on_total (λ (o : Overlap). o.after) nat_cmp_total)))
