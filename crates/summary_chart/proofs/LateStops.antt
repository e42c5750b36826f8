-- Stops that the pass back puts in, in any order: their ways stay where others are appended, a table that loses places needs no others, and with those
-- before them they are stops as any.
use Rattle.std.proofs.Common.{◌≡◌, inl, inr, ℕ, ◌+◌, ◌*◌, ◌≤◌, Option, List, [], ◌∷◌, ◌++◌, length, Contains, sym, ap, subst, arith}
use Rattle.std.specs.List.Sorted.{IsStrictlySortedBy}
use Rattle.std.proofs.lemmas.List.{length-append}
use Rattle.std.proofs.lemmas.List.Elements.{All-nil, All-contains, Contains-append_cases, Contains-push_cases}
use Rattle.list_laws.proofs.Sorted.{All-from_Contains}
use Rattle.text_definitions.specs.Lines.{Line}
use Rattle.segmentation_definitions.specs.Items.{Choice}
use Rattle.segmentation_definitions.specs.Listings.{Key}
use Rattle.annotated_trie.specs.Searched.{SearchedLexicon}
use Rattle.search_frames.specs.declared.configuration.Configuration.{Configuration}
use Rattle.derivation.specs.declared.entrance.Entrance.{Entrance}
use Rattle.search_frames.specs.declared.way.Way.{Way}
use Rattle.search_frames.specs.declared.way.TheConstants.{MOST_WAYS}
use Rattle.search_frames.specs.Configurations.{NumberedConfiguration, rules_in}
use Rattle.search_frames.specs.Frames.{IsConfigurationIn, numbered_of}
use Rattle.summary_chart.specs.declared.place_ways.Stop.{Stop}
use Rattle.summary_chart.specs.declared.state_set.StateSet.{StateSet}
use Rattle.summary_chart.specs.declared.table.Table.{Table}
use Rattle.summary_chart.specs.Tables.{IsTable, IsIn, IsIndexed, IsEntrance, set_of}
use Rattle.summary_chart.specs.Spreading.{GoesFurtherBy, IsLedByPhase, leads_in}
use Rattle.summary_chart.specs.Charts.{index_of_place, set_count}
use Rattle.summary_chart.specs.declared.passes.TheConstants.{SETS_FOR_A_WAY}
use Rattle.summary_chart.specs.PlaceWays.{AppendsWays, AreFew, AreLateStops, AreWaysOf, HasWays, HaveLivingWays, IsLivingKey, IsStopWithin, compare_stops, ways_of}
use Rattle.summary_chart.proofs.KeptWays.{further_before, goes_if_further, last_ways, of_fewer, still_ways, ways_there}

module _ (searched : SearchedLexicon) (line : Line) (choices : List Choice) where
  abbrev Goes : Table → NumberedConfiguration → Key → Type 0
  Goes table = GoesFurtherBy searched line choices table

  -- there are none yet
  pub none_late : (table : Table) (ways : List Way) → AreLateStops searched line choices table [] ways
  none_late table ways = record {
    within = All-nil (IsStopWithin (length ways));
    each = All-nil (HasWays searched line choices (Goes table) table ways);
  }

  -- a stop stays one where ways are appended
  within_more : (ways more : List Way) (stop : Stop) → IsStopWithin (length ways) stop → IsStopWithin (length (ways ++ more)) stop
  within_more ways more stop is = (let sum = length-append ways more in record { rises = is.rises; within = omega (arith, is.within, sum) })

  still_has : (table : Table) (ways more : List Way) (stop : Stop) → IsStopWithin (length ways) stop → HasWays searched line choices (Goes table) table ways stop
      → HasWays searched line choices (Goes table) table (ways ++ more) stop
  still_has table ways more stop is has place within proper same =
      subst (AreWaysOf searched line choices (Goes table) table place) (sym (still_ways searched line choices ways more stop is)) (has place within proper same)

  pub late_still : (table : Table) (late : List Stop) (ways more : List Way) → AreLateStops searched line choices table late ways
      → AreLateStops searched line choices table late (ways ++ more)
  late_still table late ways more are = record {
    within = All-from_Contains (IsStopWithin (length (ways ++ more))) late (λ stop there.
        within_more ways more stop (All-contains (IsStopWithin (length ways)) late stop are.within there));
    each = All-from_Contains (HasWays searched line choices (Goes table) table (ways ++ more)) late (λ stop there.
        still_has table ways more stop (All-contains (IsStopWithin (length ways)) late stop are.within there)
        (All-contains (HasWays searched line choices (Goes table) table ways) late stop are.each there));
  }

  pub living_still : (table : Table) (stops : List Stop) (ways more : List Way) → HaveLivingWays searched line choices table stops ways
      → HaveLivingWays searched line choices table stops (ways ++ more)
  living_still table stops ways more have =
      let still = late_still table stops ways more (record { within = have.are.within; each = have.each }) in
      record { are = record { rising = have.are.rising; within = still.within }; each = still.each }

  -- one more is put in, with ways of its places
  pub one_late_more : (table : Table) (index : ℕ) (late : List Stop) (ways more : List Way) → AreLateStops searched line choices table late ways
      → ((place : Configuration) → IsConfigurationIn searched line place → IsEntrance place.entrance → index_of_place searched place ≡ index
      → AreWaysOf searched line choices (Goes table) table place more)
      → AreLateStops searched line choices table (late ++ record { index = index; first = length ways; end = length (ways ++ more) } ∷ []) (ways ++ more)
  one_late_more table index late ways more are has =
      let last : Stop = record { index = index; first = length ways; end = length (ways ++ more) } in
      let sum = length-append ways more in
      let still = late_still table late ways more are in
      record {
        within = All-from_Contains (IsStopWithin (length (ways ++ more))) (late ++ last ∷ []) (λ stop there. elim (Contains-push_cases late last stop there) [
          | inl earlier ↦ All-contains (IsStopWithin (length (ways ++ more))) late stop still.within earlier
          | inr same ↦ subst (IsStopWithin (length (ways ++ more))) same (record { rises = omega (arith, sum); within = omega arith })
        ]);
        each = All-from_Contains (HasWays searched line choices (Goes table) table (ways ++ more)) (late ++ last ∷ []) (λ stop there. elim (Contains-push_cases late last stop there) [
          | inl earlier ↦ All-contains (HasWays searched line choices (Goes table) table (ways ++ more)) late stop still.each earlier
          | inr same ↦ subst (HasWays searched line choices (Goes table) table (ways ++ more)) same (λ place within proper same_index.
              subst (AreWaysOf searched line choices (Goes table) table place) (sym (last_ways searched line choices ways more index))
              (has place within proper same_index))
        ]);
      }

  -- the living ways of one more place are put in, with their stop
  pub put_late : (index at : ℕ) (entrance : Entrance) (table : Table) (lawful : IsTable (leads_in searched) (length line.letters) table)
      (indexed : IsIndexed (leads_in searched) (length line.letters) index at entrance) (state : Option ℕ) (set : StateSet) → set_of table index ≡ set
      → (stops late : List Stop) (ways new : List Way)
      → AppendsWays searched line choices (numbered_of searched (record { at = at; entrance = entrance; state = state }))
      (IsLivingKey searched line choices table at entrance set) (IsLedByPhase searched.machine set) ways new
      → length new ≤ length ways + MOST_WAYS → HaveLivingWays searched line choices table stops ways → AreLateStops searched line choices table late ways
      → HaveLivingWays searched line choices table stops new
      × AreLateStops searched line choices table (late ++ record { index = index; first = length ways; end = length new } ∷ []) new
  put_late index at entrance table lawful indexed state set read stops late ways new appended few have are =
      let here = numbered_of searched (record { at = at; entrance = entrance; state = state }) in
      let appends = subst (λ (s : StateSet). AppendsWays searched line choices here (IsLivingKey searched line choices table at entrance s)
      (IsLedByPhase searched.machine s) ways new) (sym read) appended in
      let there = ways_there searched line choices index at entrance table lawful indexed state
      (IsLivingKey searched line choices table at entrance (set_of table index)) (Goes table) ways new
      (λ one key goes. goes_if_further searched line choices table one key goes) (λ number key is goes. (number, is, goes)) appends few in (
        subst (HaveLivingWays searched line choices table stops) (sym appends.appended) (living_still table stops ways appends.ways have),
        subst (λ (w : List Way). AreLateStops searched line choices table (late ++ record { index = index; first = length ways; end = length w } ∷ []) w)
            (sym appends.appended) (one_late_more table index late ways appends.ways are there),
      )

  -- a table that loses places needs no other stops
  pub late_fewer : (old new : Table) (late : List Stop) (ways : List Way)
      → ((place : Configuration) → IsConfigurationIn searched line place → IsIn new place → IsIn old place)
      → AreLateStops searched line choices old late ways → AreLateStops searched line choices new late ways
  late_fewer old new late ways fewer are = record {
    within = are.within;
    each = All-from_Contains (HasWays searched line choices (Goes new) new ways) late (λ stop there place within proper same.
        of_fewer searched line choices (Goes new) (Goes old) old new place (ways_of ways stop)
        (further_before searched line choices old new fewer (numbered_of searched place)) (fewer place within)
        (All-contains (HasWays searched line choices (Goes old) old ways) late stop are.each there place within proper same));
  }

  -- with those before them, and in order, they are stops as any
  pub all_in_order : (table : Table) (stops late new : List Stop) (ways : List Way) → HaveLivingWays searched line choices table stops ways
      → AreLateStops searched line choices table late ways → IsStrictlySortedBy compare_stops new
      → ((stop : Stop) → Contains new stop → Contains (stops ++ late) stop) → HaveLivingWays searched line choices table new ways
  all_in_order table stops late new ways have are rising from = record {
    are = record {
      rising = rising;
      within = All-from_Contains (IsStopWithin (length ways)) new (λ stop there. elim (Contains-append_cases stops late stop (from stop there)) [
        | inl one ↦ All-contains (IsStopWithin (length ways)) stops stop have.are.within one
        | inr other ↦ All-contains (IsStopWithin (length ways)) late stop are.within other
      ]);
    };
    each = All-from_Contains (HasWays searched line choices (Goes table) table ways) new (λ stop there. elim (Contains-append_cases stops late stop (from stop there)) [
      | inl one ↦ All-contains (HasWays searched line choices (Goes table) table ways) stops stop have.each one
      | inr other ↦ All-contains (HasWays searched line choices (Goes table) table ways) late stop are.each other
    ]);
  }

  -- stops and ways are few where they are no more together than there is room for
  pub few_with : (most : ℕ) (sets : ℕ) (stops late : List Stop) (ways : List Way) → sets ≡ set_count searched line
      → SETS_FOR_A_WAY * most ≤ sets * length (rules_in searched).names → length stops + length late + length ways ≤ most
      → AreFew searched line (stops ++ late) ways
  few_with most sets stops late ways all room within =
      let sum = length-append stops late in
      let count = ap (λ (n : ℕ). n * length (rules_in searched).names) all in
      omega (arith, sum, count, room, within)

  -- and stay few where there are no more
  pub few_still : (stops late new more : List Stop) (ways : List Way) → length new ≡ length stops → more ≡ late → AreFew searched line (stops ++ late) ways
      → AreFew searched line (new ++ more) ways
  few_still stops late new more ways count same few =
      let sum = length-append stops late in
      let total = length-append new more in
      let long = ap length same in
      omega (arith, sum, total, long, count, few)

  pub few_in_order : (stops late new : List Stop) (ways : List Way) → length new ≤ length stops + length late → AreFew searched line (stops ++ late) ways
      → AreFew searched line new ways
  few_in_order stops late new ways count few = (let sum = length-append stops late in omega (arith, sum, count, few))

  -- before there are late ones
  pub few_without : (stops : List Stop) (ways : List Way) → AreFew searched line stops ways → AreFew searched line (stops ++ []) ways
  few_without stops ways few = (let sum = length-append stops [] in omega (arith, sum, few))
