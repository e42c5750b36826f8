-- Each call of the closures answers by the order of items, which is total and tells different items apart (`RisingItems`).
use Rattle.std.proofs.Common.{◌≡◌, ap, rules}
use Rattle.std.specs.Ordering.{is_lt, eq_by_cmp}
use Rattle.std.proofs.lemmas.Fn.{always_returns_same, dedup_same}
use Rattle.std.proofs.lemmas.List.MinMax.{ranks_by}
use Rattle.segmentation_definitions.specs.Items.{Item}
use Rattle.segmentation_definitions.specs.Listings.{compare_items}
use Rattle.segmentation_definitions.proofs.ItemOrder.{compare_items_total}
use Rattle.summary_chart.proofs.RisingItems.{rising_items}
use Rattle.summary_chart.proofs.items.sort_items.Goals as goal

pub returns-clause-rising : goal.returns-clause-rising
returns-clause-rising c =
    (rising_items c.args.items.now.items c.sort_unstable_by.new.self.items c.dedup_by.new.self.items c.sort_unstable_by.ensures.permutation
    (c.sort_unstable_by.ensures.sorted (λ (x y : Item). is_lt (compare_items x y)) (ranks_by compare_items_total (λ (i : Item). i))
    (always_returns_same _ (λ a r. is_lt r ≡ is_lt (compare_items a.0.now a.1.0.now)) _ (λ a r f k. let same : r ≡ compare_items a.0.now a.1.0.now = search rules in (ap is_lt same, search rules))))
    (dedup_same _ (eq_by_cmp compare_items) _ (λ x y b f x' y' k. search rules) c.sort_unstable_by.new.self.items c.dedup_by.new.self.items c.dedup_by.ensures.filtered)).0

pub returns-clause-same : goal.returns-clause-same
returns-clause-same c item =
    (rising_items c.args.items.now.items c.sort_unstable_by.new.self.items c.dedup_by.new.self.items c.sort_unstable_by.ensures.permutation
    (c.sort_unstable_by.ensures.sorted (λ (x y : Item). is_lt (compare_items x y)) (ranks_by compare_items_total (λ (i : Item). i))
    (always_returns_same _ (λ a r. is_lt r ≡ is_lt (compare_items a.0.now a.1.0.now)) _ (λ a r f k. let same : r ≡ compare_items a.0.now a.1.0.now = search rules in (ap is_lt same, search rules))))
    (dedup_same _ (eq_by_cmp compare_items) _ (λ x y b f x' y' k. search rules) c.sort_unstable_by.new.self.items c.dedup_by.new.self.items c.dedup_by.ensures.filtered)).1 item
