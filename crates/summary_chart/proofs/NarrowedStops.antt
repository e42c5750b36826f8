-- A stop that is left with a part of its ways, which has all living ones, still has the living ways of its places: these are in the order of
-- their keys, and each other stop stays what it was.
use Rattle.std.proofs.Common.{◌≡◌, ℕ, ◌+◌, ◌-◌, ◌≤◌, List, [], ◌∷◌, length, take, drop, map, slice_set, Contains, refl, sym, ap, subst, ◌∙◌, arith}
use Rattle.std.specs.declared.cmp.Ordering.TheVariants.{Less}
use Rattle.std.specs.Ordering.{nat_cmp}
use Rattle.std.specs.List.Sorted.{IsStrictlySortedBy}
use Rattle.std.proofs.lemmas.Cmp.{nat_cmp_total}
use Rattle.std.proofs.lemmas.Map.Keys.{sorted_tail}
use Rattle.std.proofs.lemmas.List.{drop-drop, drop-take, drop-map, take-take, take-map, take-append-drop, length-take, length-drop, map-set, set-get_or}
use Rattle.std.proofs.lemmas.List.Elements.{All-take, All-drop, All-set, All-contains, Contains-get_or}
use Rattle.list_laws.proofs.Sorted.{All-from_Contains, Less-from_later, sorted_front, sorted_later}
use Rattle.list_laws.proofs.FirstOnes.{Contains-map, sorted-cons, sorted-map}
use Rattle.text_definitions.specs.Lines.{Line}
use Rattle.segmentation_definitions.specs.Items.{Choice}
use Rattle.segmentation_definitions.specs.Listings.{Key, compare_keys}
use Rattle.segmentation_definitions.proofs.KeyLists.{compare_keys_total}
use Rattle.derivation.specs.declared.entrance.Entrance.{Entrance}
use Rattle.annotated_trie.specs.Searched.{SearchedLexicon}
use Rattle.search_frames.specs.declared.configuration.Configuration.{Configuration}
use Rattle.search_frames.specs.declared.way.Way.{Way}
use Rattle.search_frames.specs.Configurations.{NumberedConfiguration}
use Rattle.search_frames.specs.Frames.{numbered_of}
use Rattle.search_frames.specs.WaysFrom.{IsWayFrom, key_of_way}
use Rattle.summary_chart.specs.declared.place_ways.Stop.{Stop}
use Rattle.summary_chart.specs.declared.table.Table.{Table}
use Rattle.summary_chart.specs.Tables.{IsTable, IsIndexed, set_of}
use Rattle.summary_chart.specs.Spreading.{GoesFurtherBy, leads_in}
use Rattle.summary_chart.specs.PlaceWays.{AreWaysAt, AreWaysOf, HasWays, HaveLivingWays, IsLivingKey, IsLivingPart, IsStopAt, IsStopWithin, compare_stops, narrowed, part_of, stop_at, ways_of}
use Rattle.summary_chart.proofs.TableStates.{at_index}

-- ---- parts of lists

-- a part of the keys in their order
rising_part : (first count : ℕ) (keys : List Key) → IsStrictlySortedBy compare_keys keys → IsStrictlySortedBy compare_keys (take count (drop first keys))
rising_part first count keys sorted =
    let later = sorted_later compare_keys_total (take first keys) (drop first keys)
    (subst (IsStrictlySortedBy compare_keys) (sym (take-append-drop first keys)) sorted) in
    sorted_front compare_keys_total (take count (drop first keys)) (drop count (drop first keys))
    (subst (IsStrictlySortedBy compare_keys) (sym (take-append-drop count (drop first keys))) later)

-- a part of a stop's ways are the ways of the narrowed stop
narrowed_ways : (ways : List Way) (stop : Stop) (first end : ℕ) → first ≤ end → end ≤ stop.end - stop.first
    → part_of (ways_of ways stop) first end ≡ ways_of ways (narrowed stop first end)
narrowed_ways ways stop first end rises within =
    let whole = drop stop.first ways in
    let rest = stop.end - stop.first - first in
    let count : first + rest ≡ stop.end - stop.first = omega (arith, rises, within) in
    let size : end - first ≡ stop.first + end - (stop.first + first) = omega (arith, rises) in
    ap (λ n. take (end - first) (drop first (take n whole))) (sym count) ∙ ap (take (end - first)) (drop-take first rest whole)
    ∙ take-take (end - first) rest (drop first whole) (omega (arith, within)) ∙ ap (take (end - first)) (drop-drop first stop.first ways)
    ∙ ap (λ n. take n (drop (stop.first + first) ways)) size

-- stops whose indices rise
rising_stops : (stops : List Stop) → IsStrictlySortedBy nat_cmp (map (λ (s : Stop). s.index) stops) → IsStrictlySortedBy compare_stops stops
unfolding IsStrictlySortedBy
rising_stops [] rising = tt
rising_stops (stop ∷ stops) rising =
    let indices = map (λ (s : Stop). s.index) stops in
    sorted-cons compare_stops stop stops
    (All-from_Contains (λ (other : Stop). compare_stops stop other ≡ Less) stops (λ other there.
    Less-from_later nat_cmp_total stop.index indices other.index rising (Contains-map (λ (s : Stop). s.index) stops other there)))
    (rising_stops stops (sorted_tail nat_cmp stop.index indices rising))

-- a stop in place of another at the same index
same_order : (stops : List Stop) (number : ℕ) (put : Stop) → put.index ≡ (stop_at stops number).index → IsStrictlySortedBy compare_stops stops
    → IsStrictlySortedBy compare_stops (slice_set stops number put)
same_order stops number put same rising =
    let index = λ (s : Stop). s.index in
    let indices : map index (slice_set stops number put) ≡ map index stops =
    map-set index stops number put ∙ ap (slice_set (map index stops) number) same ∙ sym (map-set index stops number (stop_at stops number))
    ∙ ap (map index) (set-get_or stops number (record { index = 0; first = 0; end = 0 })) in
    rising_stops (slice_set stops number put)
    (subst (IsStrictlySortedBy nat_cmp) (sym indices)
    (sorted-map compare_stops nat_cmp index (λ stop. Unit {0}) (λ one other first second less. less) stops (λ stop there. tt) rising))

module _ (searched : SearchedLexicon) (line : Line) (choices : List Choice) (index at : ℕ) (entrance : Entrance) (table : Table)
    (lawful : IsTable (leads_in searched) (length line.letters) table)
    (indexed : IsIndexed (leads_in searched) (length line.letters) index at entrance) (stops : List Stop) (ways : List Way)
    (have : HaveLivingWays searched line choices table stops ways) (number : ℕ) (is : IsStopAt stops index number) where
  abbrev stop : Stop
  stop = stop_at stops number

  there : Contains stops stop
  there = Contains-get_or stops number (record { index = 0; first = 0; end = 0 }) is.below

  pub stop_within : IsStopWithin (length ways) stop
  stop_within = All-contains (IsStopWithin (length ways)) stops stop have.are.within there

  -- these are the ways at the index
  pub at_number : AreWaysAt stops ways index (ways_of ways stop)
  at_number = (stop, there, is.is, refl)

  pub as_many : length (ways_of ways stop) ≡ stop.end - stop.first
  as_many =
      let within = stop_within.within in
      let dropped = length-drop stop.first ways in
      let taken = length-take (stop.end - stop.first) (drop stop.first ways) in
      omega (arith, within, dropped, taken)

  module _ (first end : ℕ)
      (part : IsLivingPart (IsLivingKey searched line choices table at entrance (set_of table index)) (ways_of ways stop) first end) where
    abbrev Goes : NumberedConfiguration → Key → Type 0
    Goes = GoesFurtherBy searched line choices table

    part_within : end ≤ stop.end - stop.first
    part_within = let within = part.within in let many = as_many in omega (arith, within, many)

    part_ways : HasWays searched line choices Goes table ways (narrowed stop first end)
    part_ways place within proper same =
        let all = ways_of ways stop in
        let was = All-contains (HasWays searched line choices Goes table ways) stops stop have.each there place within proper same in
        subst (AreWaysOf searched line choices Goes table place) (narrowed_ways ways stop first end part.rises part_within) (record {
          each = All-take (IsWayFrom searched line choices (numbered_of searched place)) (end - first) (drop first all)
              (All-drop (IsWayFrom searched line choices (numbered_of searched place)) first all was.each);
          all = λ inside key goes.
              let here = at_index searched line index at entrance table lawful indexed place within inside (same ∙ is.is) in
              part.all key (here.number, here.state, subst (λ (p : Configuration). Goes (numbered_of searched p) key) here.is goes)
              (was.all inside key goes);
          rising = subst (IsStrictlySortedBy compare_keys)
              (ap (take (end - first)) (drop-map key_of_way first all) ∙ take-map key_of_way (end - first) (drop first all))
              (rising_part first (end - first) (map key_of_way all) was.rising);
          few = (
              let few = was.few in
              let dropped = length-drop first all in
              let taken = length-take (end - first) (drop first all) in
              omega (arith, few, dropped, taken)
              );
        })

    pub still_living : HaveLivingWays searched line choices table (slice_set stops number (narrowed stop first end)) ways
    still_living = record {
      are = record {
        rising = same_order stops number (narrowed stop first end) refl have.are.rising;
        within = All-set (IsStopWithin (length ways)) stops number (narrowed stop first end)
            (record {
              rises = (let rises = part.rises in omega (arith, rises));
              within = (let low = part_within in let is = stop_within in let rises = is.rises in let within = is.within in omega (arith, low, rises, within));
            })
            have.are.within;
      };
      each = All-set (HasWays searched line choices Goes table ways) stops number (narrowed stop first end) part_ways have.each;
    }
