-- One turn of the pass forward: where keys lead on to from the places at an index is put into the table, stands later, and is
-- reached; so each place before the next index is closed. A living place is in a table that is closed everywhere, by induction on
-- the front of an answer that ends there.
use Rattle.std.proofs.Common.{◌≡◌, ℕ, ◌+◌, ◌<◌, inl, inr, List, length, refl, sym, subst, arith}
use Rattle.std.proofs.lemmas.Bool.{cases_lt}
use Rattle.text_definitions.specs.Lines.{Line}
use Rattle.segmentation_definitions.specs.Items.{Choice}
use Rattle.segmentation_definitions.specs.Listings.{Key}
use Rattle.derivation.specs.declared.entrance.Entrance.{Entrance}
use Rattle.annotated_trie.specs.Searched.{SearchedLexicon, IsSearchedLexicon}
use Rattle.search_frames.specs.declared.configuration.Configuration.{Configuration}
use Rattle.search_frames.specs.Frames.{IsConfigurationIn, numbered_of}
use Rattle.search_frames.specs.Tests.{LeadsTo}
use Rattle.search_frames.specs.Reached.{IsReached}
use Rattle.search_frames.proofs.LeadingTo.{leads_from}
use Rattle.search_frames.proofs.ReachedConfigurations.{opening_reached}
use Rattle.summary_chart.specs.declared.table.Table.{Table}
use Rattle.summary_chart.specs.Tables.{IsTable, IsIn, IsIndexed, AreEmptyBetween, set_of}
use Rattle.summary_chart.specs.Spreading.{Spreads, EveryKey, IsLedOnTo, leads_in, place_with}
use Rattle.summary_chart.specs.Charts.{IsReachedBefore, IsOpenTable, index_of_place}
use Rattle.summary_chart.proofs.TableOrder.{later_place}
use Rattle.summary_chart.proofs.TableStates.{numbered_at, stands_in, with_within, at_index}

-- a place to which a key leads from a place of the table: it is reached, and stands later
pub record IsLater (searched : SearchedLexicon) (line : Line) (choices : List Choice) (index : ℕ) (place : Configuration) : Type 0 where
  pub reached : IsReached searched line choices (numbered_of searched place)
  pub later : index < index_of_place searched place

pub later_if_led : (searched : SearchedLexicon) (line : Line) (choices : List Choice) (place next : Configuration) (key : Key) (table : Table) → IsSearchedLexicon searched
    → IsConfigurationIn searched line place → IsIn table place → IsReached searched line choices (numbered_of searched place)
    → LeadsTo searched line choices (numbered_of searched place) key next
    → IsLater searched line choices (index_of_place searched place) next
later_if_led searched line choices place next key table is within inside reached leads =
    let led = leads_from searched line choices (numbered_of searched place) key next leads is reached in
    record { reached = led.reached; later = later_place searched line place next inside.entrance within led.place led.rises }

module _ (searched : SearchedLexicon) (line : Line) (choices : List Choice) (index at : ℕ) (entrance : Entrance) (old : Table)
    (is : IsSearchedLexicon searched) (before : IsReachedBefore searched line choices index old)
    (indexed : IsIndexed (leads_in searched) (length line.letters) index at entrance) where
  -- where the states at the index lead to is reached, and stands later
  led_later : (key : Key) (next : Configuration) → IsLedOnTo searched line choices at entrance (set_of old index) key next
      → IsLater searched line choices index next
  led_later key next (number, state, leads) =
      let place = place_with at entrance number in
      let within = with_within searched line index at entrance old before.lawful indexed number state in
      let inside = stands_in searched line index at entrance old before.lawful indexed number state.1 in
      let later = later_if_led searched line choices place next key old is within inside (before.reached place within inside) leads in
      record { reached = later.reached; later = subst (λ (n : ℕ). n < index_of_place searched next) indexed.is later.later }

  module _ (new : Table) (lawful : IsTable (leads_in searched) (length line.letters) new)
      (spreads : Spreads searched line choices at entrance (set_of old index) EveryKey old new) where
    -- up to the index nothing new stands in the table
    pub old_before : (place : Configuration) → IsConfigurationIn searched line place → index_of_place searched place < index + 1 → IsIn new place → IsIn old place
    old_before place within low inside = elim (spreads.only place within inside) [
      | inl was ↦ was
      | inr led ↦ (let later = (led_later led.0 place led.2).later in absurd (omega (arith, low, later)))
    ]

    closed_at : (place next : Configuration) (key : Key) → IsConfigurationIn searched line place → IsIn old place → index_of_place searched place ≡ index
        → LeadsTo searched line choices (numbered_of searched place) key next → IsIn new next
    closed_at place next key within inside same leads =
        let here = at_index searched line index at entrance old before.lawful indexed place within inside same in
        spreads.adds key next tt (
          here.number,
          here.state,
          subst (λ (p : Configuration). LeadsTo searched line choices (numbered_of searched p) key next) here.is leads,
        )

    pub spread_on : IsReachedBefore searched line choices (index + 1) new
    spread_on = record {
      lawful = lawful;
      reached = λ place within inside. elim (spreads.only place within inside) [
        | inl was ↦ before.reached place within was
        | inr led ↦ (led_later led.0 place led.2).reached
      ];
      begun = λ place within opened. spreads.keeps place (before.begun place within opened);
      closed = λ place next key within low inside leads.
          let was = old_before place within low inside in
          elim (cases_lt (index_of_place searched place) index) [
            | inl earlier ↦ spreads.keeps next (before.closed place next key within earlier was leads)
            | inr same ↦ closed_at place next key within was (omega arith) leads
          ];
    }

-- where the sets up to an index are empty, nothing is to be done
pub nothing_until : (searched : SearchedLexicon) (line : Line) (choices : List Choice) (from until : ℕ) (table : Table)
    → IsReachedBefore searched line choices from table → AreEmptyBetween table.sets.items from until
    → IsReachedBefore searched line choices until table
nothing_until searched line choices from until table before empty = record {
  lawful = before.lawful;
  reached = before.reached;
  begun = before.begun;
  closed = λ place next key within low inside leads. elim (cases_lt (index_of_place searched place) from) [
    | inl earlier ↦ before.closed place next key within earlier inside leads
    | inr later ↦
        let here = numbered_at searched line (index_of_place searched place) table place before.lawful inside refl in
        absurd (empty.empty (index_of_place searched place) here.number later low here.has)
  ];
}

-- the table with the opening alone
pub opened : (searched : SearchedLexicon) (line : Line) (choices : List Choice) (table : Table) → IsOpenTable searched line table
    → IsReachedBefore searched line choices 0 table
opened searched line choices table is = record {
  lawful = is.lawful;
  reached = λ place within inside. subst (IsReached searched line choices) (sym ((is.exact place within).0 inside)) (opening_reached searched line choices);
  begun = λ place within e. (is.exact place within).1 e;
  closed = λ place next key within low inside leads. absurd (omega arith);
}
