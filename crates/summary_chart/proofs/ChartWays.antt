-- A path from a place that is reached begins with a key that ends the line, or leads on to a place of the program's; and then both places are
-- living, so the table has them. So the living ways that a chart keeps from there are all that a search has to try.
use Rattle.std.proofs.Common.{◌≡◌, ℕ, ◌≤◌, inl, inr, List, [], ◌∷◌, length, sym, subst, ◌∙◌}
use Rattle.text_definitions.specs.Lines.{Line}
use Rattle.segmentation_definitions.specs.Items.{Choice}
use Rattle.segmentation_definitions.specs.Listings.{Key}
use Rattle.listing_laws.specs.Ways.{HasPath}
use Rattle.annotated_trie.specs.Searched.{SearchedLexicon, IsSearchedLexicon}
use Rattle.search_frames.specs.declared.configuration.Configuration.{Configuration}
use Rattle.search_frames.specs.declared.way.Way.{Way}
use Rattle.search_frames.specs.declared.way.TheConstants.{MOST_WAYS}
use Rattle.search_frames.specs.Configurations.{NumberedConfiguration, ways_in}
use Rattle.search_frames.specs.Frames.{IsConfigurationIn, numbered_of}
use Rattle.search_frames.specs.Reached.{IsReached}
use Rattle.search_frames.specs.Turns.{BeginsPath}
use Rattle.search_frames.specs.WaysFrom.{AreAllWays}
use Rattle.summary_chart.specs.declared.table.Table.{Table}
use Rattle.summary_chart.specs.Tables.{HasSet, IsEntrance, index_in}
use Rattle.summary_chart.specs.Charts.{IsAlive, IsChartTable}
use Rattle.summary_chart.specs.Spreading.{GoesFurtherBy, leads_in}
use Rattle.summary_chart.specs.PlaceWays.{AreWaysAt, AreWaysOf, ChartValue, IsChartOf}
use Rattle.summary_chart.proofs.TableStates.{same_configuration}
use Rattle.summary_chart.proofs.TablePlaces.{has_set}
use Rattle.summary_chart.proofs.ProgramPlaces.{led_place}
use Rattle.summary_chart.proofs.KeptWays.{found_ways}

module _ (searched : SearchedLexicon) (line : Line) (choices : List Choice) where
  goes_if_begins : (table : Table) (here : NumberedConfiguration) (key : Key) → IsChartTable searched line choices table → IsSearchedLexicon searched
      → IsReached searched line choices here → BeginsPath searched line choices here key → GoesFurtherBy searched line choices table here key
  goes_if_begins table here key chart is reached ([], path) = inl path
  goes_if_begins table here key chart is reached (later ∷ keys, (next, leads, path)) =
      let led = led_place searched line choices here next key is reached leads in
      let alive : IsAlive searched line choices led.place = record {
        reached = led.reached;
        path = subst (HasPath (ways_in searched line choices)) (sym led.is) (later ∷ keys, path);
      } in
      inr (led.place, led.leads, (chart.exact led.place led.leads.within).1 alive)

  module _ (chart : ChartValue) (place : Configuration) (of : IsChartOf searched line choices chart) (within : IsConfigurationIn searched line place) where
    -- a chart can be asked of each place
    pub set_there : HasSet chart.table place.at place.entrance
    set_there = has_set (leads_in searched) (length line.letters) chart.table place.at place.entrance of.table.lawful within.letters within.over

    module _ (index : ℕ) (found : List Way) (proper : IsEntrance place.entrance) (at : index ≡ index_in chart.table place.at place.entrance)
        (is : AreWaysAt chart.stops chart.ways index found) where
      ways_are : AreWaysOf searched line choices (GoesFurtherBy searched line choices chart.table) chart.table place found
      ways_are =
          found_ways searched line choices index chart.table chart.stops chart.ways found of.ways is place within proper
          (sym (same_configuration (leads_in searched) (length line.letters) place.at place.entrance chart.table of.table.lawful) ∙ sym at)

      pub all_ways : IsSearchedLexicon searched → IsReached searched line choices (numbered_of searched place)
          → AreAllWays searched line choices (numbered_of searched place) found
      all_ways lexicon reached = record {
        each = ways_are.each;
        all = λ key begins.
            let inside = (of.table.exact place within).1 (record { reached = reached; path = (key ∷ begins.0, begins.1) }) in
            ways_are.all inside key (goes_if_begins chart.table (numbered_of searched place) key of.table lexicon reached begins);
        rising = ways_are.rising;
      }

      pub few_ways : length found ≤ MOST_WAYS
      few_ways = ways_are.few
