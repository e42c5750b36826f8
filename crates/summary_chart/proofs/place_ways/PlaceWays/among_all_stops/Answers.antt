-- The search among the rising stops finds the one at the index, or there is no such stop (list_laws' `Searches`).
use Rattle.std.proofs.Common.{rules, ℕ, ◌<◌, List, length, Ok, Err, Contains, subst, map}
use Rattle.std.specs.Ordering.{nat_cmp}
use Rattle.std.specs.List.Sorted.{IsStrictlySortedBy, IsBinarySearchResult}
use Rattle.std.proofs.lemmas.Fn.{always_returns_same}
use Rattle.std.proofs.lemmas.Cmp.{nat_cmp_total}
use Rattle.std.proofs.lemmas.Map.Lookups.{exact_unsigned}
use Rattle.list_laws.proofs.Searches.{found_at, absent, not_falling}
use Rattle.list_laws.proofs.FirstOnes.{Contains-map}
use Rattle.summary_chart.specs.declared.place_ways.Stop.{Stop}
use Rattle.summary_chart.specs.PlaceWays.{HasStopAt, IsStopAt, compare_stops}
use Rattle.summary_chart.proofs.place_ways.PlaceWays.among_all_stops.Goals as goal

-- the stop that the search found has the index
found_stop : (stops : List Stop) (index number : ℕ) → number < length stops
    → IsBinarySearchResult (λ (s : Stop). nat_cmp s.index index) stops (Ok number) → IsStopAt stops index number
found_stop stops index number low search = record {
  below = low;
  is = found_at nat_cmp_total exact_unsigned (λ (s : Stop). s.index) stops index (Ok number) search (record { index = 0; first = 0; end = 0 });
}

-- where the search finds no stop, there is no stop
no_stop : (stops : List Stop) (index place : ℕ) → IsStrictlySortedBy compare_stops stops
    → IsBinarySearchResult (λ (s : Stop). nat_cmp s.index index) stops (Err place) → HasStopAt stops index → ⊥
no_stop stops index place rising search (stop, there, is) =
    absent nat_cmp_total exact_unsigned (λ (s : Stop). s.index) stops index place
    (search (not_falling nat_cmp_total exact_unsigned (λ (s : Stop). s.index) stops index rising))
    (subst (Contains (map (λ (s : Stop). s.index) stops)) is (Contains-map (λ (s : Stop). s.index) stops stop there))

pub returns-in-Ok : goal.returns-in-Ok
returns-in-Ok c =
    let stops = c.args.self.now.stops.items in
    let search = c.in-Ok.ensures.position (λ (s : Stop). nat_cmp s.index c.args.index) (always_returns_same _ _ _ (λ a r f' k. search rules)) in
    let low : c.in-Ok.number < length stops = subst (λ (stops : List Stop). c.in-Ok.number < length stops) c.deref.ensures.value c.in-Ok.ensures.bound in
    let at = subst (λ (stops : List Stop). IsBinarySearchResult (λ (s : Stop). nat_cmp s.index c.args.index) stops (Ok c.in-Ok.number)) c.deref.ensures.value search in
    record { found = found_stop stops c.args.index c.in-Ok.number low at }

pub returns-in-Err : goal.returns-in-Err
returns-in-Err c =
    let search = c.in-Err.ensures.position (λ (s : Stop). nat_cmp s.index c.args.index) (always_returns_same _ _ _ (λ a r f' k. search rules)) in
    record { found = no_stop c.args.self.now.stops.items c.args.index c.in-Err.field-0 c.requires.stops.rising (subst (λ (stops : List Stop). IsBinarySearchResult (λ (s : Stop). nat_cmp s.index c.args.index) stops (Err c.in-Err.field-0)) c.deref.ensures.value search) }
