-- The ways from one place at an index are those from each place there that the table has: the states of its set lead by the phases that
-- were gone over. One stop more stands after those before it, and the ways of these stay where others are appended; and a table that
-- loses places needs no other stops, since no more keys go further then.
use Rattle.std.proofs.Common.{◌≡◌, ℕ, ◌+◌, ◌-◌, ◌<◌, ◌≤◌, inl, inr, IsTrue, IsSome, Option, Some, None, List, [], ◌∷◌, ◌++◌, length, take, drop, Contains, refl, sym, ap, subst, ◌∙◌, arith}
use Rattle.std.specs.List.{All}
use Rattle.std.specs.Ordering.{nat_cmp}
use Rattle.std.specs.Cmp.{nat_cmp_is}
use Rattle.std.specs.List.Sorted.{IsStrictlySortedBy}
use Rattle.std.specs.declared.cmp.Ordering.TheVariants.{Less}
use Rattle.std.proofs.lemmas.Bool.{false≢true}
use Rattle.std.proofs.lemmas.List.{take-append-le, drop-append-le, length-append, length-drop}
use Rattle.std.proofs.lemmas.List.Elements.{All-nil, All-contains, Contains-push_cases}
use Rattle.std.proofs.Math.Seq.{drop-append_seam, take-length}
use Rattle.list_laws.proofs.Sorted.{All-from_Contains}
use Rattle.list_laws.proofs.FirstOnes.{sorted-append}
use Rattle.text_definitions.specs.Lines.{Line}
use Rattle.segmentation_definitions.specs.Items.{Choice}
use Rattle.segmentation_definitions.specs.Listings.{Key}
use Rattle.phase_automaton.specs.Automata.{StateMachine, next_state, is_accepting}
use Rattle.derivation.specs.declared.entrance.Entrance.{Entrance}
use Rattle.derivation.specs.Guides.{entrance_of}
use Rattle.annotated_trie.specs.Searched.{SearchedLexicon}
use Rattle.search_frames.specs.declared.configuration.Configuration.{Configuration}
use Rattle.search_frames.specs.declared.way.Way.{Way}
use Rattle.search_frames.specs.declared.way.TheConstants.{MOST_WAYS}
use Rattle.search_frames.specs.Configurations.{NumberedConfiguration, IsPossible}
use Rattle.search_frames.specs.Frames.{IsConfigurationIn, numbered_of}
use Rattle.search_frames.specs.LetterTests.{MayNeither}
use Rattle.search_frames.specs.WaysFrom.{IsWayFrom}
use Rattle.search_frames.proofs.ConfigurationRanks.{possible_if_leads, possible_if_ends, may_if_leads, may_if_ends}
use Rattle.search_frames.proofs.PossibleKeys.{some_there}
use Rattle.summary_chart.specs.declared.place_ways.PlaceWays.{PlaceWays}
use Rattle.summary_chart.specs.declared.place_ways.Stop.{Stop}
use Rattle.summary_chart.specs.declared.state_set.StateSet.{StateSet}
use Rattle.summary_chart.specs.declared.table.Table.{Table}
use Rattle.summary_chart.specs.StateSets.{IsStateOf}
use Rattle.summary_chart.specs.Tables.{IsTable, IsIn, IsIndexed, IsEntrance, set_of}
use Rattle.summary_chart.specs.Spreading.{EveryKey, GoesFurtherBy, IsLedByPhase, leads_in, place_with, standing_with}
use Rattle.summary_chart.specs.Charts.{index_of_place}
use Rattle.summary_chart.specs.PlaceWays.{AddsStop, AppendsWays, AreFew, AreWaysAt, AreWaysOf, HasEachKey, HasKept, HasWays, HaveAllWays, HaveLivingWays, HaveWays, HaveWaysBefore, IsStopWithin, LeadsOnOrEnds, compare_stops, ways_of}
use Rattle.summary_chart.proofs.TableOrder.{same_index}
use Rattle.summary_chart.proofs.TableStates.{at_index, stands_in, with_within}
use Rattle.summary_chart.proofs.WaysElsewhere.{possible_elsewhere, neither_elsewhere, ways_elsewhere}

-- ---- keys that lead on or end the line

some_if_accepting : (machine : StateMachine) (state : Option ℕ) → IsTrue (is_accepting machine state) → IsSome state
some_if_accepting machine None accepted = absurd (false≢true accepted)
some_if_accepting machine (Some number) accepted = refl

-- a state that leads to some state by the phase
led_by_phase : (machine : StateMachine) (set : StateSet) (number : ℕ) (key : Key) → IsStateOf machine set number
    → IsSome (next_state machine (Some number) key.phase) → IsLedByPhase machine set key
led_by_phase machine set number key state some =
    let (to, is) = some_there (next_state machine (Some number) key.phase) some in
    (to, (number, state, is))

module _ (searched : SearchedLexicon) (line : Line) (choices : List Choice) where
  led_if_goes : (at number : ℕ) (entrance : Entrance) (set : StateSet) (key : Key) → IsStateOf searched.machine set number
      → LeadsOnOrEnds searched line choices (standing_with searched at entrance number) key → IsLedByPhase searched.machine set key
  led_if_goes at number entrance set key state (inl ends) =
      led_by_phase searched.machine set number key state
      (some_if_accepting searched.machine (next_state searched.machine (Some number) key.phase) ends.accepted)
  led_if_goes at number entrance set key state (inr (next, leads)) =
      led_by_phase searched.machine set number key state leads.leads_on.live

  possible_if_goes : (here : NumberedConfiguration) (key : Key) → LeadsOnOrEnds searched line choices here key
      → IsPossible searched line here key
  possible_if_goes here key (inl ends) = possible_if_ends searched line choices here key ends
  possible_if_goes here key (inr (next, leads)) = possible_if_leads searched line choices here key leads.leads_on

  not_neither : (here : NumberedConfiguration) (key : Key) → LeadsOnOrEnds searched line choices here key
      → MayNeither searched line choices here key → ⊥
  not_neither here key (inl ends) neither = neither.ends (may_if_ends searched line choices here key ends)
  not_neither here key (inr (next, leads)) neither =
      neither.leads_on (may_if_leads searched line choices here key leads.leads_on)

  -- ---- ways at an index

  -- what is found at an index are the ways from each place there
  pub found_ways : (index : ℕ) (table : Table) (stops : List Stop) (ways found : List Way) → HaveLivingWays searched line choices table stops ways
      → AreWaysAt stops ways index found → (place : Configuration) → IsConfigurationIn searched line place → IsEntrance place.entrance
      → index_of_place searched place ≡ index → AreWaysOf searched line choices (GoesFurtherBy searched line choices table) table place found
  found_ways index table stops ways found have (stop, there, stop_is, found_is) place within proper same =
      let Goes = GoesFurtherBy searched line choices table in
      subst (AreWaysOf searched line choices Goes table place) (sym found_is)
      (All-contains (HasWays searched line choices Goes table ways) stops stop have.each there place within proper (same ∙ sym stop_is))

  module _ (index at : ℕ) (entrance : Entrance) (table : Table)
      (lawful : IsTable (leads_in searched) (length line.letters) table)
      (indexed : IsIndexed (leads_in searched) (length line.letters) index at entrance) where
    -- ways that were appended from one place there, by phases to which a state of the set leads: those of keys that go on or end the line, and
    -- are looked for
    module _ (state : Option ℕ) (IsSought : Key → Type 0) (Goes : NumberedConfiguration → Key → Type 0) (old new : List Way)
        (goes_on : (here : NumberedConfiguration) (key : Key) → Goes here key → LeadsOnOrEnds searched line choices here key)
        (is_sought : (number : ℕ) (key : Key) → IsStateOf searched.machine (set_of table index) number → Goes (standing_with searched at entrance number) key
        → IsSought key)
        (appends : AppendsWays searched line choices (numbered_of searched (record { at = at; entrance = entrance; state = state })) IsSought
        (IsLedByPhase searched.machine (set_of table index)) old new) where
      pub has_each_key : HasEachKey searched Goes at entrance (set_of table index) appends.ways
      has_each_key number key is by =
          let entered = entrance_of (leads_in searched) entrance in
          let here = standing_with searched at entrance number in
          let goes = goes_on here key by in
          appends.all key (led_if_goes at number entrance (set_of table index) key is goes)
          (possible_elsewhere searched line choices at entered (Some number) state key (possible_if_goes here key goes))
          (λ neither. not_neither here key goes (neither_elsewhere searched line choices at entered state (Some number) key neither))
          (is_sought number key is by)

      -- they are those of each place there that the table has
      pub ways_there : length new ≤ length old + MOST_WAYS
          → (place : Configuration) → IsConfigurationIn searched line place → IsEntrance place.entrance
          → index_of_place searched place ≡ index → AreWaysOf searched line choices Goes table place appends.ways
      ways_there few place within proper same =
          let leads = leads_in searched in
          let cell = same_index leads place.at at place.entrance entrance proper indexed.proper within.over indexed.over (same ∙ sym indexed.is) in
          let each = ways_elsewhere searched line choices at (entrance_of leads entrance) state place.state appends.ways appends.each in
          let From : ℕ → Entrance → Type 0 = λ (n : ℕ) (e : Entrance).
          All (IsWayFrom searched line choices (record { at = n; entrance = entrance_of leads e; state = place.state })) appends.ways in
          let sum = length-append old appends.ways in
          let count = ap length appends.appended in
          record {
            each = subst (λ (n : ℕ). From n place.entrance) (sym cell.at_is) (subst (From at) (sym cell.entrance_is) each);
            all = λ inside key goes.
                let here = at_index searched line index at entrance table lawful indexed place within inside same in
                has_each_key here.number key here.state (subst (λ (p : Configuration). Goes (numbered_of searched p) key) here.is goes);
            rising = appends.rising;
            few = omega (arith, few, sum, count);
          }

    -- of all ways, those of keys that lead on or end the line
    module _ (state : Option ℕ) (old new : List Way)
        (appends : AppendsWays searched line choices (numbered_of searched (record { at = at; entrance = entrance; state = state })) EveryKey
        (IsLedByPhase searched.machine (set_of table index)) old new) where
      pub each_key : HasEachKey searched (LeadsOnOrEnds searched line choices) at entrance (set_of table index) appends.ways
      each_key = has_each_key state EveryKey (LeadsOnOrEnds searched line choices) old new (λ here key goes. goes) (λ number key is goes. tt) appends

      pub all_ways_there : length new ≤ length old + MOST_WAYS
          → (place : Configuration) → IsConfigurationIn searched line place → IsEntrance place.entrance
          → index_of_place searched place ≡ index → AreWaysOf searched line choices (LeadsOnOrEnds searched line choices) table place appends.ways
      all_ways_there = ways_there state EveryKey (LeadsOnOrEnds searched line choices) old new (λ here key goes. goes) (λ number key is goes. tt) appends

    -- what is found at the index
    module _ (stops : List Stop) (ways found : List Way) (have : HaveLivingWays searched line choices table stops ways)
        (is : AreWaysAt stops ways index found) where
      pub keys_found : HasEachKey searched (GoesFurtherBy searched line choices table) at entrance (set_of table index) found
      keys_found number key state goes =
          (found_ways index table stops ways found have is (place_with at entrance number)
          (with_within searched line index at entrance table lawful indexed number state) indexed.proper indexed.is).all
          (stands_in searched line index at entrance table lawful indexed number state.1) key goes

      pub ways_at : (state : Option ℕ) → IsConfigurationIn searched line (record { at = at; entrance = entrance; state = state })
          → AreWaysOf searched line choices (GoesFurtherBy searched line choices table) table (record { at = at; entrance = entrance; state = state }) found
      ways_at state within =
          found_ways index table stops ways found have is (record { at = at; entrance = entrance; state = state }) within indexed.proper indexed.is

  -- ---- one stop after another

  -- the ways of a stop stay where others are appended
  pub still_ways : (ways more : List Way) (stop : Stop) → IsStopWithin (length ways) stop → ways_of (ways ++ more) stop ≡ ways_of ways stop
  still_ways ways more stop is =
      let low : stop.first ≤ length ways = omega (arith, is.rises, is.within) in
      let count = length-drop stop.first ways in
      let enough : stop.end - stop.first ≤ length (drop stop.first ways) = omega (arith, count, is.within) in
      ap (take (stop.end - stop.first)) (drop-append-le stop.first ways more low)
      ∙ take-append-le (stop.end - stop.first) (drop stop.first ways) more enough

  -- the ways of the last stop are those that were appended
  pub last_ways : (ways more : List Way) (index : ℕ)
      → ways_of (ways ++ more) (record { index = index; first = length ways; end = length (ways ++ more) }) ≡ more
  last_ways ways more index =
      let count : length (ways ++ more) - length ways ≡ length more = let sum = length-append ways more in omega (arith, sum) in
      ap (λ (n : ℕ). take n (drop (length ways) (ways ++ more))) count ∙ ap (take (length more)) (drop-append_seam ways more)
      ∙ take-length more

  -- no stop before the first index
  pub no_stops : (table : Table) → HaveWaysBefore searched line choices 0 table [] []
  unfolding IsStrictlySortedBy
  no_stops table = record {
    have = record {
      are = record { rising = tt; within = All-nil (IsStopWithin 0) };
      each = All-nil (HasWays searched line choices (LeadsOnOrEnds searched line choices) table []);
    };
    before = All-nil (λ (stop : Stop). stop.index < 0);
  }

  pub none_few : AreFew searched line [] []
  none_few = omega arith

  -- nor one more where indices are passed over
  pub until : (from next : ℕ) (table : Table) (stops : List Stop) (ways : List Way) → from ≤ next
      → HaveWaysBefore searched line choices from table stops ways → HaveWaysBefore searched line choices next table stops ways
  until from next table stops ways rises before = record {
    have = before.have;
    before = All-from_Contains (λ (stop : Stop). stop.index < next) stops (λ stop there.
        let low = All-contains (λ (stop : Stop). stop.index < from) stops stop before.before there in omega (arith, low, rises));
  }

  -- a table that loses places, and fewer keys that are told
  pub of_fewer : (IsTold IsMore : NumberedConfiguration → Key → Type 0) (old new : Table) (place : Configuration) (ways : List Way)
      → ((key : Key) → IsTold (numbered_of searched place) key → IsMore (numbered_of searched place) key) → (IsIn new place → IsIn old place)
      → AreWaysOf searched line choices IsMore old place ways → AreWaysOf searched line choices IsTold new place ways
  of_fewer IsTold IsMore old new place ways more fewer are = record {
    each = are.each;
    all = λ inside key told. are.all (fewer inside) key (more key told);
    rising = are.rising;
    few = are.few;
  }

  have_fewer : (IsTold IsMore : NumberedConfiguration → Key → Type 0) (old new : Table) (stops : List Stop) (ways : List Way)
      → ((here : NumberedConfiguration) (key : Key) → IsTold here key → IsMore here key)
      → ((place : Configuration) → IsConfigurationIn searched line place → IsIn new place → IsIn old place)
      → HaveWays searched line choices IsMore old stops ways → HaveWays searched line choices IsTold new stops ways
  have_fewer IsTold IsMore old new stops ways more fewer have = record {
    are = have.are;
    each = All-from_Contains (HasWays searched line choices IsTold new ways) stops (λ stop there place within proper same.
        of_fewer IsTold IsMore old new place (ways_of ways stop) (more (numbered_of searched place)) (fewer place within)
        (All-contains (HasWays searched line choices IsMore old ways) stops stop have.each there place within proper same));
  }

  -- a key that goes further leads on or ends the line
  pub goes_if_further : (table : Table) (here : NumberedConfiguration) (key : Key) → GoesFurtherBy searched line choices table here key
      → LeadsOnOrEnds searched line choices here key
  goes_if_further table here key (inl ends) = inl ends
  goes_if_further table here key (inr (next, leads, there)) = inr (next, leads)

  -- and where a table loses places, no more keys go further
  pub further_before : (old new : Table) → ((place : Configuration) → IsConfigurationIn searched line place → IsIn new place → IsIn old place)
      → (here : NumberedConfiguration) (key : Key) → GoesFurtherBy searched line choices new here key → GoesFurtherBy searched line choices old here key
  further_before old new fewer here key (inl ends) = inl ends
  further_before old new fewer here key (inr (next, leads, there)) = inr (next, leads, fewer next leads.within there)

  -- who has all ways has the living ones
  pub living_of_all : (table : Table) (stops : List Stop) (ways : List Way) → HaveAllWays searched line choices table stops ways
      → HaveLivingWays searched line choices table stops ways
  living_of_all table stops ways =
      have_fewer (GoesFurtherBy searched line choices table) (LeadsOnOrEnds searched line choices) table table stops ways (goes_if_further table)
      (λ place within inside. inside)

  pub fewer_places : (old new : Table) (stops : List Stop) (ways : List Way)
      → ((place : Configuration) → IsConfigurationIn searched line place → IsIn new place → IsIn old place)
      → HaveLivingWays searched line choices old stops ways → HaveLivingWays searched line choices new stops ways
  fewer_places old new stops ways fewer =
      have_fewer (GoesFurtherBy searched line choices new) (GoesFurtherBy searched line choices old) old new stops ways (further_before old new fewer)
      fewer

  -- one index more, and at it no stop or one
  module _ (index : ℕ) (old new : Table) (stops : List Stop) (ways : List Way)
      (was : (place : Configuration) → IsConfigurationIn searched line place → index_of_place searched place < index + 1 → IsIn new place → IsIn old place)
      (so_far : HaveWaysBefore searched line choices index old stops ways) where
    abbrev Goes : NumberedConfiguration → Key → Type 0
    Goes = LeadsOnOrEnds searched line choices

    low_before : (stop : Stop) → Contains stops stop → stop.index < index
    low_before stop there = All-contains (λ (stop : Stop). stop.index < index) stops stop so_far.before there

    within_before : (stop : Stop) → Contains stops stop → IsStopWithin (length ways) stop
    within_before stop there = All-contains (IsStopWithin (length ways)) stops stop so_far.have.are.within there

    ways_before : (stop : Stop) → Contains stops stop → HasWays searched line choices Goes new ways stop
    ways_before stop there place within proper same =
        let low = low_before stop there in
        of_fewer Goes Goes old new place (ways_of ways stop) (λ key told. told) (was place within (omega (arith, low, same)))
        (All-contains (HasWays searched line choices Goes old ways) stops stop so_far.have.each there place within proper same)

    pub no_stop_more : HaveWaysBefore searched line choices (index + 1) new stops ways
    no_stop_more = record {
      have = record { are = so_far.have.are; each = All-from_Contains (HasWays searched line choices Goes new ways) stops ways_before };
      before = All-from_Contains (λ (stop : Stop). stop.index < index + 1) stops (λ stop there. let low = low_before stop there in omega (arith, low));
    }

    pub one_stop_more : (more : List Way)
        → ((place : Configuration) → IsConfigurationIn searched line place → IsEntrance place.entrance → index_of_place searched place ≡ index
        → AreWaysOf searched line choices Goes old place more)
        → HaveWaysBefore searched line choices (index + 1) new
        (stops ++ record { index = index; first = length ways; end = length (ways ++ more) } ∷ []) (ways ++ more)
    unfolding IsStrictlySortedBy
    one_stop_more more are =
        let last : Stop = record { index = index; first = length ways; end = length (ways ++ more) } in
        let sum = length-append ways more in
        record {
          have = record {
            are = record {
              rising = sorted-append compare_stops stops (last ∷ []) so_far.have.are.rising (tt, tt) (λ stop other there here.
                  elim (Contains-push_cases [] last other here) [
                    | inl none ↦ absurd (omega (arith, none.1))
                    | inr same ↦ subst (λ (o : Stop). nat_cmp stop.index o.index ≡ Less) same (sym (nat_cmp_is stop.index index Less (low_before stop there)))
                  ]);
              within = All-from_Contains (IsStopWithin (length (ways ++ more))) (stops ++ last ∷ []) (λ stop there. elim (Contains-push_cases stops last stop there) [
                | inl earlier ↦ let is = within_before stop earlier in record { rises = is.rises; within = omega (arith, is.within, sum) }
                | inr same ↦ subst (IsStopWithin (length (ways ++ more))) same (record { rises = omega (arith, sum); within = omega arith })
              ]);
            };
            each = All-from_Contains (HasWays searched line choices Goes new (ways ++ more)) (stops ++ last ∷ []) (λ stop there. elim (Contains-push_cases stops last stop there) [
              | inl earlier ↦ λ place within proper same.
                  subst (AreWaysOf searched line choices Goes new place) (sym (still_ways ways more stop (within_before stop earlier)))
                  (ways_before stop earlier place within proper same)
              | inr same ↦ subst (HasWays searched line choices Goes new (ways ++ more)) same (λ place within proper same_index.
                  subst (AreWaysOf searched line choices Goes new place) (sym (last_ways ways more index))
                  (of_fewer Goes Goes old new place more (λ key told. told) (was place within (omega (arith, same_index))) (are place within proper same_index)))
            ]);
          };
          before = All-from_Contains (λ (stop : Stop). stop.index < index + 1) (stops ++ last ∷ []) (λ stop there. elim (Contains-push_cases stops last stop there) [
            | inl earlier ↦ let low = low_before stop earlier in omega (arith, low)
            | inr same ↦ subst (λ (stop : Stop). stop.index < index + 1) same (omega arith)
          ]);
        }

  -- ---- one turn of the pass forward

  module _ (index most at : ℕ) (entrance : Entrance) (state : Option ℕ) (table : Table)
      (lawful : IsTable (leads_in searched) (length line.letters) table)
      (indexed : IsIndexed (leads_in searched) (length line.letters) index at entrance) (old kept : PlaceWays) where
    abbrev here : NumberedConfiguration
    here = numbered_of searched (record { at = at; entrance = entrance; state = state })

    -- what is told of a set that was read at the index
    abbrev IsTold : StateSet → Option Stop → Type 0
    IsTold set told = HasKept searched line choices here set index most old kept told

    abbrev Adds : Stop → Type 0
    Adds stop = AddsStop searched line choices here (set_of table index) index most old kept stop

    pub put_in : (set : StateSet) (told : Option Stop) (stop : Stop) → set_of table index ≡ set → told ≡ Some stop → IsTold set told → Adds stop
    put_in set told stop read is has = subst (λ (s : StateSet). IsTold s (Some stop)) (sym read) (subst (IsTold set) is has)

    pub left : (set : StateSet) (told : Option Stop) → ((stop : Stop) → told ≡ Some stop → ⊥) → IsTold set told
        → (kept.stops.items ≡ old.stops.items) × (kept.ways.items ≡ old.ways.items)
    left set None none has = has
    left set (Some stop) none has = absurd (none stop refl)

    -- the ways of the stop that was put in are those that were appended
    added_ways : (stop : Stop) (adds : Adds stop) → ways_of kept.ways.items stop ≡ adds.appends.ways
    added_ways stop adds =
        let first = length old.ways.items in
        ap (ways_of kept.ways.items) adds.is
        ∙ subst (λ (new : List Way). ways_of new (record { index = index; first = first; end = length new }) ≡ adds.appends.ways)
        (sym adds.appends.appended) (last_ways old.ways.items adds.appends.ways index)

    pub each_added : (stop : Stop) → Adds stop → All (IsWayFrom searched line choices here) (ways_of kept.ways.items stop)
    each_added stop adds = subst (All (IsWayFrom searched line choices here)) (sym (added_ways stop adds)) adds.appends.each

    pub keys_added : (stop : Stop) → Adds stop
        → HasEachKey searched (LeadsOnOrEnds searched line choices) at entrance (set_of table index) (ways_of kept.ways.items stop)
    keys_added stop adds =
        subst (HasEachKey searched (LeadsOnOrEnds searched line choices) at entrance (set_of table index)) (sym (added_ways stop adds))
        (each_key index at entrance table lawful indexed state old.ways.items kept.ways.items adds.appends)

    -- whether a stop was put in or not, those that are kept are right up to the next index
    module _ (new : Table)
        (was : (place : Configuration) → IsConfigurationIn searched line place → index_of_place searched place < index + 1 → IsIn new place
        → IsIn table place)
        (so_far : HaveWaysBefore searched line choices index table old.stops.items old.ways.items) where
      abbrev Have : List Stop → List Way → Type 0
      Have stops ways = HaveWaysBefore searched line choices (index + 1) new stops ways

      pub with_stop : (stop : Stop) → Adds stop → Have kept.stops.items kept.ways.items
      with_stop stop adds =
          let stops = old.stops.items in
          let last : List Way → Stop = λ (w : List Way). record { index = index; first = length old.ways.items; end = length w } in
          let one = one_stop_more index table new stops old.ways.items was so_far adds.appends.ways
          (all_ways_there index at entrance table lawful indexed state old.ways.items kept.ways.items adds.appends adds.few) in
          subst (λ (s : List Stop). Have s kept.ways.items) (sym adds.added)
          (subst (λ (s : Stop). Have (stops ++ s ∷ []) kept.ways.items) (sym adds.is)
          (subst (λ (w : List Way). Have (stops ++ last w ∷ []) w) (sym adds.appends.appended) one))

      pub without_stop : (kept.stops.items ≡ old.stops.items) × (kept.ways.items ≡ old.ways.items) → Have kept.stops.items kept.ways.items
      without_stop (same_stops, same_ways) =
          subst (λ (s : List Stop). Have s kept.ways.items) (sym same_stops)
          (subst (Have old.stops.items) (sym same_ways) (no_stop_more index table new old.stops.items old.ways.items was so_far))
