-- The search among some of the stops finds one at the index (list_laws' `Searches`), which is one of all.
use Rattle.std.proofs.Common.{rules, ◌≡◌, ◌∙◌, ℕ, ◌+◌, ◌-◌, ◌<◌, List, length, get_or, take, drop, Ok, sym, ap, arith}
use Rattle.std.specs.Ordering.{nat_cmp}
use Rattle.std.specs.List.Sorted.{IsBinarySearchResult}
use Rattle.std.proofs.lemmas.Fn.{always_returns_same}
use Rattle.std.proofs.lemmas.Cmp.{nat_cmp_total}
use Rattle.std.proofs.lemmas.Map.Lookups.{exact_unsigned}
use Rattle.std.proofs.lemmas.List.{get_or-take, get_or-drop, length-take, length-drop}
use Rattle.list_laws.proofs.Searches.{found_at}
use Rattle.summary_chart.specs.declared.place_ways.Stop.{Stop}
use Rattle.summary_chart.specs.PlaceWays.{IsStopAt}
use Rattle.summary_chart.proofs.place_ways.PlaceWays.among_stops_after.Goals as goal

-- what the search found among the stops from one number up to another
found_stop : (stops shown : List Stop) (first until index number : ℕ) → shown ≡ stops
    → number < length (take (until - first) (drop first shown))
    → IsBinarySearchResult (λ (s : Stop). nat_cmp s.index index) (take (until - first) (drop first shown)) (Ok number)
    → IsStopAt stops index (first + number)
found_stop stops shown first until index number is low search =
    let blank : Stop = record { index = 0; first = 0; end = 0 } in
    let some = take (until - first) (drop first shown) in
    let taken = length-take (until - first) (drop first shown) in
    let dropped = length-drop first shown in
    let same : get_or some number blank ≡ get_or stops (first + number) blank =
    get_or-take (until - first) (drop first shown) number blank (omega (arith, low, taken)) ∙ get_or-drop first shown number blank
    ∙ ap (λ (s : List Stop). get_or s (first + number) blank) is in
    let within : first + number < length shown = omega (arith, low, taken, dropped) in
    record {
      below = omega (arith, within, ap length is);
      is = ap (λ (s : Stop). s.index) (sym same) ∙ found_at nat_cmp_total exact_unsigned (λ (s : Stop). s.index) some index (Ok number) search blank;
    }

pub returns-in-Ok : goal.returns-in-Ok
returns-in-Ok c =
    let search = c.in-Ok.ensures.position (λ (s : Stop). nat_cmp s.index c.args.index) (always_returns_same _ _ _ (λ a r f' k. search rules)) in
    record {
      found = found_stop c.args.self.now.stops.items c.as_slice.result.now c.min-first.result c.stops_before-until.result c.args.index c.in-Ok.number
          c.as_slice.ensures.value c.in-Ok.ensures.bound search;
    }
