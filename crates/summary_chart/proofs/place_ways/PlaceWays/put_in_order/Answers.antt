-- The stops are put in order by their indices, and of those with one index the first is left: so they rise, and each was one before.
use Rattle.std.proofs.Common.{◌≡◌, ◌++◌, List, Contains, refl, sym, ap, subst, rules}
use Rattle.std.specs.List.{dedup}
use Rattle.std.specs.Ordering.{eq_by_cmp, is_lt}
use Rattle.std.specs.List.Sorted.{IsStrictlySortedBy}
use Rattle.std.proofs.lemmas.Cmp.{nat_cmp_total, on_total}
use Rattle.std.proofs.lemmas.Fn.{always_returns_same, dedup_same}
use Rattle.std.proofs.lemmas.List.Kept.{Contains-from_dedup, IsStrictlySortedBy-dedup}
use Rattle.std.proofs.lemmas.List.MinMax.{ranks_by}
use Rattle.std.proofs.lemmas.List.Sorted.{Contains-permutation, IsPermutation-sym}
use Rattle.summary_chart.specs.declared.place_ways.Stop.{Stop}
use Rattle.summary_chart.specs.PlaceWays.{compare_stops}
use Rattle.summary_chart.proofs.place_ways.PlaceWays.put_in_order.Goals as goal

pub returns-clause-rising : goal.returns-clause-rising
returns-clause-rising c =
    let total = on_total (λ (s : Stop). s.index) nat_cmp_total in
    let sorted = c.sort_unstable_by.ensures.sorted (λ (x y : Stop). is_lt (compare_stops x y)) (ranks_by nat_cmp_total (λ (s : Stop). s.index))
    (always_returns_same _ (λ a r. is_lt r ≡ is_lt (compare_stops a.0.now a.1.0.now)) _ (λ a r f k. let same : r ≡ compare_stops a.0.now a.1.0.now = search rules in (ap is_lt same, search rules))) in
    let kept : c.dedup_by.new.self.items ≡ dedup (eq_by_cmp compare_stops) c.sort_unstable_by.new.self.items =
    dedup_same _ (eq_by_cmp compare_stops) _ (λ x y b f x' y' k. search rules) c.sort_unstable_by.new.self.items c.dedup_by.new.self.items c.dedup_by.ensures.filtered in
    subst (IsStrictlySortedBy compare_stops) (sym kept) (IsStrictlySortedBy-dedup total (λ x y. refl) c.sort_unstable_by.new.self.items sorted)

pub returns-clause-from : goal.returns-clause-from
returns-clause-from c stop there =
    let kept : c.dedup_by.new.self.items ≡ dedup (eq_by_cmp compare_stops) c.sort_unstable_by.new.self.items =
    dedup_same _ (eq_by_cmp compare_stops) _ (λ x y b f x' y' k. search rules) c.sort_unstable_by.new.self.items c.dedup_by.new.self.items c.dedup_by.ensures.filtered in
    let all : c.extend_from_slice.new.self.items ≡ c.args.self.now.stops.items ++ c.args.self.now.late.items = search rules in
    subst (λ (s : List Stop). Contains s stop) all
    (Contains-permutation c.sort_unstable_by.new.self.items c.extend_from_slice.new.self.items stop
    (IsPermutation-sym c.extend_from_slice.new.self.items c.sort_unstable_by.new.self.items c.sort_unstable_by.ensures.permutation)
    (Contains-from_dedup (eq_by_cmp compare_stops) c.sort_unstable_by.new.self.items stop (subst (λ (s : List Stop). Contains s stop) kept there)))
