-- The ways from places of a table, kept one after another (own).
use Rattle.std.specs.Prelude.{◌≡◌, ℕ, ◌+◌, ◌-◌, ◌*◌, ◌<◌, ◌≤◌, ◌⊎◌, Option, Some, None, List, [], ◌∷◌, ◌++◌, length, take, drop, map, slice_index_or, All, Contains}
use Rattle.std.specs.declared.cmp.Ordering.{Ordering}
use Rattle.std.specs.Ordering.{nat_cmp}
use Rattle.std.specs.List.Sorted.{IsStrictlySortedBy}
use Rattle.text_definitions.specs.Lines.{Line}
use Rattle.segmentation_definitions.specs.Items.{Choice}
use Rattle.segmentation_definitions.specs.Listings.{Key, compare_keys}
use Rattle.annotated_trie.specs.Searched.{SearchedLexicon}
use Rattle.search_frames.specs.declared.configuration.Configuration.{Configuration}
use Rattle.search_frames.specs.declared.way.Way.{Way}
use Rattle.search_frames.specs.declared.way.TheConstants.{MOST_WAYS}
use Rattle.search_frames.specs.Configurations.{NumberedConfiguration, IsPossible, Ends, rules_in}
use Rattle.search_frames.specs.Frames.{IsConfigurationIn, numbered_of}
use Rattle.search_frames.specs.LetterTests.{MayNeither}
use Rattle.search_frames.specs.Tests.{LeadsTo}
use Rattle.search_frames.specs.WaysFrom.{IsWayFrom, key_of_way}
use Rattle.derivation.specs.declared.entrance.Entrance.{Entrance}
use Rattle.summary_chart.specs.declared.place_ways.PlaceWays.{PlaceWays}
use Rattle.summary_chart.specs.declared.place_ways.Stop.{Stop}
use Rattle.summary_chart.specs.declared.state_set.StateSet.{StateSet}
use Rattle.summary_chart.specs.declared.table.Table.{Table}
use Rattle.summary_chart.specs.declared.passes.TheConstants.{SETS_FOR_A_WAY}
use Rattle.summary_chart.specs.StateSets.{IsStateOf}
use Rattle.summary_chart.specs.Spreading.{EveryKey, GoesFurtherBy, IsLedByPhase, standing_with}
use Rattle.summary_chart.specs.Tables.{IsIn, IsEntrance, set_of}
use Rattle.summary_chart.specs.Charts.{IsChartTable, index_of_place, set_count}

-- the ways from the first number to before the end
abbrev pub part_of : List Way → ℕ → ℕ → List Way
part_of ways first end = take (end - first) (drop first ways)

-- the ways of a stop
abbrev pub ways_of : List Way → Stop → List Way
ways_of ways stop = part_of ways stop.first stop.end

-- the stop with this number
abbrev pub stop_at : List Stop → ℕ → Stop
stop_at stops number = slice_index_or stops number (record { index = 0; first = 0; end = 0 })

-- the stop that has of another's ways those from the first number to before the end
abbrev pub narrowed : Stop → ℕ → ℕ → Stop
narrowed stop first end = record { index = stop.index; first = stop.first + first; end = stop.first + end }

-- stops are ordered by their indices
abbrev pub compare_stops : Stop → Stop → Ordering
compare_stops left right = nat_cmp left.index right.index

-- the stop's ways are some of so many
pub record IsStopWithin (count : ℕ) (stop : Stop) : Type 0 where
  pub rises : stop.first ≤ stop.end
  pub within : stop.end ≤ count

-- the stops rise, and their ways are some of so many
pub record AreStops (stops : List Stop) (count : ℕ) : Type 0 where
  pub rising : IsStrictlySortedBy compare_stops stops
  pub within : All (IsStopWithin count) stops

-- the key ends the line here, or leads on
abbrev pub LeadsOnOrEnds : SearchedLexicon → Line → List Choice → NumberedConfiguration → Key → Type 0
LeadsOnOrEnds searched line choices here key =
    Ends searched line choices here key ⊎ ((next : Configuration) × LeadsTo searched line choices here key next)

-- ways from here were appended, in the order of their keys: of those of the keys that are told by this all that are looked for
pub record AppendsWays (searched : SearchedLexicon) (line : Line) (choices : List Choice) (here : NumberedConfiguration)
    (IsSought IsTold : Key → Type 0) (old new : List Way) : Type 0 where
  pub ways : List Way
  pub appended : new ≡ old ++ ways
  pub each : All (IsWayFrom searched line choices here) ways
  pub told : All (λ way. IsTold (key_of_way way)) ways
  pub rising : IsStrictlySortedBy compare_keys (map key_of_way ways)
  pub all : (key : Key) → IsTold key → IsPossible searched line here key → (MayNeither searched line choices here key → ⊥)
      → IsSought key → Contains (map key_of_way ways) key

-- keys in the falling order
abbrev pub compare_falling : Key → Key → Ordering
compare_falling left right = compare_keys right left

-- ways from here were appended, in the falling order of their keys: of those of the keys that are told by this all that are looked for
pub record AppendsFalling (searched : SearchedLexicon) (line : Line) (choices : List Choice) (here : NumberedConfiguration)
    (IsSought IsTold : Key → Type 0) (old new : List Way) : Type 0 where
  pub ways : List Way
  pub appended : new ≡ old ++ ways
  pub each : All (IsWayFrom searched line choices here) ways
  pub told : All (λ way. IsTold (key_of_way way)) ways
  pub falling : IsStrictlySortedBy compare_falling (map key_of_way ways)
  pub all : (key : Key) → IsTold key → IsPossible searched line here key → (MayNeither searched line choices here key → ⊥)
      → IsSought key → Contains (map key_of_way ways) key

-- a stop for the index was put in, with ways from here: those by phases to which some state of the set leads, no more than are kept from one
-- place, and stops and ways no more than this together
pub record AddsStop (searched : SearchedLexicon) (line : Line) (choices : List Choice) (here : NumberedConfiguration) (set : StateSet)
    (index most : ℕ) (old new : PlaceWays) (stop : Stop) : Type 0 where
  pub appends : AppendsWays searched line choices here EveryKey (IsLedByPhase searched.machine set) old.ways.items new.ways.items
  pub few : length new.ways.items ≤ length old.ways.items + MOST_WAYS
  pub is : stop ≡ record { index = index; first = length old.ways.items; end = length new.ways.items }
  pub added : new.stops.items ≡ old.stops.items ++ stop ∷ []
  pub room : length new.stops.items + length new.ways.items ≤ most

-- such a stop was put in, or all stays as it was
abbrev pub HasKept : SearchedLexicon → Line → List Choice → NumberedConfiguration → StateSet → ℕ → ℕ → PlaceWays → PlaceWays → Option Stop
    → Type 0
HasKept searched line choices here set index most old new None = (new.stops.items ≡ old.stops.items) × (new.ways.items ≡ old.ways.items)
HasKept searched line choices here set index most old new (Some stop) = AddsStop searched line choices here set index most old new stop

-- the same, for the states at the index of the table, where so many stops and ways are few beside its sets
abbrev pub HasKeptFew : SearchedLexicon → Line → List Choice → NumberedConfiguration → Table → ℕ → PlaceWays → PlaceWays → Option Stop → Type 0
HasKeptFew searched line choices here table index old new stop = (most : ℕ)
    × (SETS_FOR_A_WAY * most ≤ length table.sets.items * length (rules_in searched).names)
    × HasKept searched line choices here (set_of table index) index most old new stop

-- each key from a place with one of these states that is told by this is that of a way
abbrev pub HasEachKey : SearchedLexicon → (NumberedConfiguration → Key → Type 0) → ℕ → Entrance → StateSet → List Way → Type 0
HasEachKey searched IsTold at entrance set ways =
    (number : ℕ) (key : Key) → IsStateOf searched.machine set number → IsTold (standing_with searched at entrance number) key
    → Contains (map key_of_way ways) key

-- these are ways from the place in the order of their keys, no more than are kept from one place; and where the table has the place, each
-- key from there that is told by this is that of one
pub record AreWaysOf (searched : SearchedLexicon) (line : Line) (choices : List Choice) (IsTold : NumberedConfiguration → Key → Type 0)
    (table : Table) (place : Configuration) (ways : List Way) : Type 0 where
  pub each : All (IsWayFrom searched line choices (numbered_of searched place)) ways
  pub all : IsIn table place → (key : Key) → IsTold (numbered_of searched place) key → Contains (map key_of_way ways) key
  pub rising : IsStrictlySortedBy compare_keys (map key_of_way ways)
  pub few : length ways ≤ MOST_WAYS

-- the stop has such ways of each place at its index
abbrev pub HasWays : SearchedLexicon → Line → List Choice → (NumberedConfiguration → Key → Type 0) → Table → List Way → Stop → Type 0
HasWays searched line choices IsTold table ways stop = (place : Configuration) → IsConfigurationIn searched line place → IsEntrance place.entrance
    → index_of_place searched place ≡ stop.index → AreWaysOf searched line choices IsTold table place (ways_of ways stop)

-- there is a stop at the index
abbrev pub HasStopAt : List Stop → ℕ → Type 0
HasStopAt stops index = (stop : Stop) × Contains stops stop × (stop.index ≡ index)

-- these are the ways of a stop at the index
abbrev pub AreWaysAt : List Stop → List Way → ℕ → List Way → Type 0
AreWaysAt stops ways index found = (stop : Stop) × Contains stops stop × (stop.index ≡ index) × (found ≡ ways_of ways stop)

-- some state of the set goes further by the key
abbrev pub IsLivingKey : SearchedLexicon → Line → List Choice → Table → ℕ → Entrance → StateSet → Key → Type 0
IsLivingKey searched line choices table at entrance set key =
    (number : ℕ) × IsStateOf searched.machine set number
    × GoesFurtherBy searched line choices table (standing_with searched at entrance number) key

-- the ways from the first number to before the end are those from the first to the last that is living
pub record IsLivingPart (IsLiving : Key → Type 0) (ways : List Way) (first end : ℕ) : Type 0 where
  pub rises : first ≤ end
  pub within : end ≤ length ways
  pub all : (key : Key) → IsLiving key → Contains (map key_of_way ways) key → Contains (map key_of_way (part_of ways first end)) key
  pub begins : (way : Way) → first < end → slice_index_or ways first way ≡ way → IsLiving (key_of_way way)
  pub ends : (way : Way) → first < end → slice_index_or ways (end - 1) way ≡ way → IsLiving (key_of_way way)

-- the stop with this number is at the index
pub record IsStopAt (stops : List Stop) (index number : ℕ) : Type 0 where
  pub below : number < length stops
  pub is : (stop_at stops number).index ≡ index

-- each stop has such ways of its places
pub record HaveWays (searched : SearchedLexicon) (line : Line) (choices : List Choice) (IsTold : NumberedConfiguration → Key → Type 0)
    (table : Table) (stops : List Stop) (ways : List Way) : Type 0 where
  pub are : AreStops stops (length ways)
  pub each : All (HasWays searched line choices IsTold table ways) stops

-- each stop has all ways of its places: those of the keys that lead on from there or end the line
abbrev pub HaveAllWays : SearchedLexicon → Line → List Choice → Table → List Stop → List Way → Type 0
HaveAllWays searched line choices table stops ways = HaveWays searched line choices (LeadsOnOrEnds searched line choices) table stops ways

-- each stop has the living ways of its places: those of the keys that end the line, or lead on to a place of the table; and it may have others
abbrev pub HaveLivingWays : SearchedLexicon → Line → List Choice → Table → List Stop → List Way → Type 0
HaveLivingWays searched line choices table stops ways = HaveWays searched line choices (GoesFurtherBy searched line choices table) table stops ways

-- the ways of these stops, in any order, are some of so many; and each has the living ways of its places, and may have others
pub record AreLateStops (searched : SearchedLexicon) (line : Line) (choices : List Choice) (table : Table) (late : List Stop) (ways : List Way) : Type 0 where
  pub within : All (IsStopWithin (length ways)) late
  pub each : All (HasWays searched line choices (GoesFurtherBy searched line choices table) table ways) late

-- each stop has all ways of its places, and stands before the index
pub record HaveWaysBefore (searched : SearchedLexicon) (line : Line) (choices : List Choice) (index : ℕ) (table : Table)
    (stops : List Stop) (ways : List Way) : Type 0 where
  pub have : HaveAllWays searched line choices table stops ways
  pub before : All (λ stop. stop.index < index) stops

-- the stops and ways together are no more than a seventh of the table's sets for each phase
abbrev pub AreFew : SearchedLexicon → Line → List Stop → List Way → Type 0
AreFew searched line stops ways =
    SETS_FOR_A_WAY * (length stops + length ways) ≤ set_count searched line * length (rules_in searched).names

-- what contracts see of a chart
pub record ChartValue : Type 0 where
  pub table : Table
  pub stops : List Stop
  pub ways : List Way

-- the chart is that of the lexicon, the line and the choices: its table has just the living places, and its stops have the living ways of
-- these
pub record IsChartOf (searched : SearchedLexicon) (line : Line) (choices : List Choice) (chart : ChartValue) : Type 0 where
  pub table : IsChartTable searched line choices chart.table
  pub ways : HaveLivingWays searched line choices chart.table chart.stops chart.ways

-- the indices of stops
abbrev pub indices_of : List Stop → List ℕ
indices_of stops = map (λ (stop : Stop). stop.index) stops

-- each place that the table has before the index stands at one of these indices of stops
abbrev pub HaveStopsBefore : SearchedLexicon → Line → ℕ → Table → List ℕ → Type 0
HaveStopsBefore searched line index table indices = (place : Configuration) → IsConfigurationIn searched line place → IsIn table place
    → index_of_place searched place < index → Contains indices (index_of_place searched place)

-- each place that the table has stands at one of these indices of stops
abbrev pub HaveStops : SearchedLexicon → Line → Table → List ℕ → Type 0
HaveStops searched line table indices = (place : Configuration) → IsConfigurationIn searched line place → IsIn table place
    → Contains indices (index_of_place searched place)

-- the table has no place from the first index up to before the second
abbrev pub HasNoPlaceBetween : SearchedLexicon → Line → Table → ℕ → ℕ → Type 0
HasNoPlaceBetween searched line table from until = (place : Configuration) → IsConfigurationIn searched line place → IsIn table place
    → from ≤ index_of_place searched place → index_of_place searched place < until → ⊥

-- from this number on the indices do not come before the index
abbrev pub AreFrom : ℕ → List ℕ → ℕ → Type 0
AreFrom index indices number = (later : ℕ) → number ≤ later → later < length indices → index ≤ slice_index_or indices later 0
