-- The indices of stops rise, so those from the stop at an index on do not come before it, and those before the last stop left do not come
-- after it. A pass that goes from stop to stop therefore passes over no place, where each place has its stop.
use Rattle.std.proofs.Common.{◌≡◌, ℕ, ◌+◌, ◌-◌, ◌<◌, ◌≤◌, inl, inr, Option, Some, None, IfSome, List, [], ◌∷◌, ◌++◌, length, get_or, map, slice_set, Contains, sym, ap, subst, ◌∙◌, arith}
use Rattle.std.specs.Ordering.{nat_cmp}
use Rattle.std.specs.List.Sorted.{IsStrictlySortedBy}
use Rattle.std.specs.Option.{unwrap_or}
use Rattle.std.proofs.lemmas.Bool.{cases_lt, cases_eq}
use Rattle.std.proofs.lemmas.List.{length-map, get_or-map, map-append, map-set, set-get_or}
use Rattle.std.proofs.lemmas.List.Elements.{Contains-append_left, Contains-push}
use Rattle.std.proofs.lemmas.Map.Keys.{below_from_sorted}
use Rattle.std.proofs.lemmas.Grind.{get_or_default_zero}
use Rattle.list_laws.proofs.FirstOnes.{sorted-map}
use Rattle.text_definitions.specs.Lines.{Line}
use Rattle.annotated_trie.specs.Searched.{SearchedLexicon}
use Rattle.search_frames.specs.declared.configuration.Configuration.{Configuration}
use Rattle.search_frames.specs.Frames.{IsConfigurationIn}
use Rattle.summary_chart.specs.declared.place_ways.Stop.{Stop}
use Rattle.summary_chart.specs.declared.table.Table.{Table}
use Rattle.summary_chart.specs.Tables.{IsIn}
use Rattle.summary_chart.specs.Charts.{index_of_place, set_count}
use Rattle.summary_chart.specs.PlaceWays.{AreFrom, AreStops, HasNoPlaceBetween, HaveStops, HaveStopsBefore, IsStopAt, compare_stops, indices_of, narrowed, stop_at}
use Rattle.summary_chart.proofs.TableStates.{index_within}

-- ---- indices that rise

rising_indices : (stops : List Stop) (count : ℕ) → AreStops stops count → IsStrictlySortedBy nat_cmp (indices_of stops)
rising_indices stops count are =
    sorted-map compare_stops nat_cmp (λ (s : Stop). s.index) (λ stop. Unit {0}) (λ one other first second less. less) stops (λ stop there. tt) are.rising

-- the index of the stop with this number
index_at : (stops : List Stop) (number : ℕ) → number < length stops → get_or (indices_of stops) number 0 ≡ (stop_at stops number).index
index_at stops number low = get_or-map (λ (s : Stop). s.index) stops number (record { index = 0; first = 0; end = 0 }) 0 low

-- from the stop at an index on none comes before it
pub from_stop : (stops : List Stop) (count index number : ℕ) → AreStops stops count → IsStopAt stops index number
    → AreFrom index (indices_of stops) number
from_stop stops count index number are is later above below =
    let here : get_or (indices_of stops) number 0 ≡ index = index_at stops number is.below ∙ is.is in
    elim (cases_eq later number) [
      | inl same ↦ (let read = ap (λ (n : ℕ). get_or (indices_of stops) n 0) same in omega (arith, read, here))
      | inr apart ↦
          let more = below_from_sorted (indices_of stops) number later 0 (rising_indices stops count are) (omega (arith, above, apart)) below in
          omega (arith, more, here)
    ]

-- nor before an earlier index
pub from_lower : (indices : List ℕ) (low high number : ℕ) → low ≤ high → AreFrom high indices number → AreFrom low indices number
from_lower indices low high number rises from later above below = let is = from later above below in omega (arith, is, rises)

-- the stops left after a turn, which changes no index: where the last was at the index, those before it
stops_left : (stops : List Stop) (count index left : ℕ) (known : Option ℕ) → AreStops stops count → AreFrom (index + 1) (indices_of stops) left
    → IfSome known (IsStopAt stops index) → AreFrom index (indices_of stops) (unwrap_or known left)
stops_left stops count index left None are from is = from_lower (indices_of stops) index (index + 1) left (omega arith) from
stops_left stops count index left (Some number) are from is = from_stop stops count index number are is

pub left_from : (stops new : List Stop) (count index until left next : ℕ) (known : Option ℕ) → AreStops stops count → until ≡ index + 1
    → AreFrom until (indices_of stops) left → IfSome known (IsStopAt stops index) → indices_of new ≡ indices_of stops → next ≡ unwrap_or known left
    → AreFrom index (indices_of new) next
left_from stops new count index until left next known are until_is from is same next_is =
    subst (λ (indices : List ℕ). AreFrom index indices next) (sym same)
    (subst (AreFrom index (indices_of stops)) (sym next_is)
    (stops_left stops count index left known are (subst (λ (n : ℕ). AreFrom n (indices_of stops) left) until_is from) is))

pub left_within : (stops : List Stop) (index left : ℕ) (known : Option ℕ) → left ≤ length stops
    → IfSome known (IsStopAt stops index) → unwrap_or known left ≤ length stops
left_within stops index left None low is = low
left_within stops index left (Some number) low is = let below = is.below in omega (arith, below)

pub from_end : (stops : List Stop) (until left : ℕ) → left ≡ length stops → AreFrom until (indices_of stops) left
from_end stops until left all later above below = let long = length-map stops (λ (s : Stop). s.index) in absurd (omega (arith, all, above, below, long))

-- narrowing a stop changes no index
pub narrowed_indices : (stops : List Stop) (number first end : ℕ)
    → indices_of (slice_set stops number (narrowed (stop_at stops number) first end)) ≡ indices_of stops
narrowed_indices stops number first end =
    let index = λ (s : Stop). s.index in
    map-set index stops number (narrowed (stop_at stops number) first end) ∙ sym (map-set index stops number (stop_at stops number))
    ∙ ap (map index) (set-get_or stops number (record { index = 0; first = 0; end = 0 }))

module _ (searched : SearchedLexicon) (line : Line) where
  -- ---- the last stop left

  module _ (table : Table) (stops : List Stop) (count until left : ℕ) (are : AreStops stops count) (low : left ≤ length stops)
      (from : AreFrom until (indices_of stops) left) (have : HaveStops searched line table (indices_of stops)) where
    -- a place before the index has one of the stops left
    stop_left : (place : Configuration) → IsConfigurationIn searched line place → IsIn table place → index_of_place searched place < until
        → (number : ℕ) × (number < left) × (get_or (indices_of stops) number 0 ≡ index_of_place searched place)
    stop_left place within inside below =
        let (number, there, is) = have place within inside in
        let read = get_or_default_zero (indices_of stops) number (index_of_place searched place) there in
        let here : get_or (indices_of stops) number 0 ≡ index_of_place searched place = sym read ∙ is in
        elim (cases_lt number left) [
          | inl earlier ↦ (number, earlier, here)
          | inr later ↦ (let high = from number later there in absurd (omega (arith, high, here, below)))
        ]

    pub none_left : left ≡ 0 → HasNoPlaceBetween searched line table 0 until
    none_left none place within inside above below =
        let (number, earlier, is) = stop_left place within inside below in absurd (omega (arith, earlier, none))

    pub none_after_last : (last : Stop) → 0 < left → last ≡ stop_at stops (left - 1) → HasNoPlaceBetween searched line table (last.index + 1) until
    none_after_last last some last_is place within inside above below =
        let (number, earlier, is) = stop_left place within inside below in
        let indices = indices_of stops in
        let long = length-map stops (λ (s : Stop). s.index) in
        let here : get_or indices (left - 1) 0 ≡ last.index = index_at stops (left - 1) (omega (arith, some, low)) ∙ ap (λ (s : Stop). s.index) (sym last_is) in
        elim (cases_eq number (left - 1)) [
          | inl same ↦ (let read = ap (λ (n : ℕ). get_or indices n 0) same in absurd (omega (arith, read, here, is, above)))
          | inr apart ↦
              let less = below_from_sorted indices number (left - 1) 0 (rising_indices stops count are) (omega (arith, earlier, apart)) (omega (arith, some, low, long)) in
              absurd (omega (arith, less, here, is, above))
        ]

  -- ---- stops of all places

  -- a table that loses places
  pub stops_of_fewer : (old new : Table) (indices : List ℕ)
      → ((place : Configuration) → IsConfigurationIn searched line place → IsIn new place → IsIn old place)
      → HaveStops searched line old indices → HaveStops searched line new indices
  stops_of_fewer old new indices fewer have place within inside = have place within (fewer place within inside)

  -- no place before the first index
  pub none_before : (table : Table) (indices : List ℕ) → HaveStopsBefore searched line 0 table indices
  none_before table indices place within inside below = absurd (omega (arith, below))

  -- nor one more where no place is passed over
  pub stops_on : (from next : ℕ) (table : Table) (indices : List ℕ) → HasNoPlaceBetween searched line table from next
      → HaveStopsBefore searched line from table indices → HaveStopsBefore searched line next table indices
  stops_on from next table indices none before place within inside below = elim (cases_lt (index_of_place searched place) from) [
    | inl earlier ↦ before place within inside earlier
    | inr later ↦ absurd (none place within inside later below)
  ]

  -- a stop at the index more
  pub one_more_stop : (index : ℕ) (old new : Table) (stops more : List Stop) (stop : Stop) → more ≡ stops ++ stop ∷ [] → stop.index ≡ index
      → ((place : Configuration) → IsConfigurationIn searched line place → index_of_place searched place < index + 1 → IsIn new place → IsIn old place)
      → HaveStopsBefore searched line index old (indices_of stops) → HaveStopsBefore searched line (index + 1) new (indices_of more)
  one_more_stop index old new stops more stop added is was before place within inside below =
      let all : indices_of more ≡ indices_of stops ++ stop.index ∷ [] = ap indices_of added ∙ map-append (λ (s : Stop). s.index) stops (stop ∷ []) in
      subst (λ (indices : List ℕ). Contains indices (index_of_place searched place)) (sym all) (elim (cases_lt (index_of_place searched place) index) [
        | inl earlier ↦
            Contains-append_left (indices_of stops) (stop.index ∷ []) (index_of_place searched place)
            (before place within (was place within below inside) earlier)
        | inr later ↦
            subst (Contains (indices_of stops ++ stop.index ∷ [])) (omega (arith, later, below, is)) (Contains-push (indices_of stops) stop.index)
      ])

  -- at the end of the table all places were gone over
  pub all_stops : (table : Table) (index : ℕ) (indices : List ℕ) → index ≡ set_count searched line → HaveStopsBefore searched line index table indices
      → HaveStops searched line table indices
  all_stops table index indices all before place within inside =
      let low = index_within searched line place inside.entrance within in before place within inside (omega (arith, low, all))
