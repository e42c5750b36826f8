-- A pass over a chart's table has after each index the items of the places before it: what stands at one index is at one number
-- of letters and one entrance. At the end these are the items of the living places, and so of the answers.
use Rattle.std.proofs.Common.{◌≡◌, ◌⊎◌, inl, inr, ℕ, ◌+◌, ◌<◌, ◌≤◌, ◌↔◌, List, [], length, Contains, get_or, refl, sym, ap, subst, ◌∙◌, arith}
use Rattle.std.specs.List.Sorted.{IsStrictlySortedBy}
use Rattle.std.proofs.lemmas.Bool.{cases_lt}
use Rattle.std.proofs.lemmas.List.{get_or_default}
use Rattle.text_definitions.specs.Lines.{Line, IsLine}
use Rattle.segmentation_definitions.specs.Items.{Item, Choice}
use Rattle.segmentation_definitions.specs.Listings.{Key, IsSummary, compare_items}
use Rattle.derivation.specs.declared.entrance.Entrance.{Entrance}
use Rattle.annotated_trie.specs.Searched.{SearchedLexicon, IsSearchedLexicon}
use Rattle.search_frames.specs.declared.configuration.Configuration.{Configuration}
use Rattle.search_frames.specs.Configurations.{NumberedConfiguration}
use Rattle.search_frames.specs.Frames.{IsConfigurationIn, numbered_of}
use Rattle.summary_chart.specs.declared.state_set.StateSet.{StateSet}
use Rattle.summary_chart.specs.declared.table.Table.{Table}
use Rattle.summary_chart.specs.Tables.{IsTable, IsIn, IsIndexed, AreEmptyBetween, set_of}
use Rattle.summary_chart.specs.Spreading.{GoesFurtherBy, leads_in, place_with}
use Rattle.summary_chart.specs.Charts.{IsChartTable, index_of_place}
use Rattle.summary_chart.specs.Summaries.{IsItemFrom, AddsItems, IsItemAt, IsItemBefore, HasItemsBefore, item_with}
use Rattle.summary_chart.proofs.TableStates.{numbered_at, at_index, stands_in, with_within, index_within}
use Rattle.summary_chart.proofs.AnswerItems.{GoesOnAlive, item_of_living, item_of_answer}

-- ---- one index

-- the set that is read at an index
pub read_set : (table : Table) (index : ℕ) (set : StateSet) → index < length table.sets.items → set ≡ get_or table.sets.items index set
    → set_of table index ≡ set
read_set table index set low is = get_or_default table.sets.items index (record { bits = 0 }) set low ∙ sym is

module _ (searched : SearchedLexicon) (line : Line) (choices : List Choice) (table : Table) (is : IsTable (leads_in searched) (length line.letters) table) where
  module _ (index at : ℕ) (entrance : Entrance) (indexed : IsIndexed (leads_in searched) (length line.letters) index at entrance) where
    -- a place at the index has these letters and this entrance
    item_of_states : (place : Configuration) (item : Item) → index_of_place searched place ≡ index → IsItemAt searched line choices table place item
        → IsItemFrom searched line choices table at entrance (set_of table index) item
    item_of_states place item same here =
        let there = at_index searched line index at entrance table is indexed place here.within here.there same in (
          here.key,
          record {
            number = there.number;
            state = there.state;
            further = subst (λ (p : Configuration). GoesFurtherBy searched line choices table (numbered_of searched p) here.key) there.is here.further;
            is = here.is ∙ ap (λ (p : Configuration). item_with searched line p.at p.entrance here.key) there.is;
          },
        )

    -- and what goes further from a state of the set does so from a place at the index
    item_at_index : (item : Item) → IsItemFrom searched line choices table at entrance (set_of table index) item
        → IsItemBefore searched line choices table (index + 1) item
    item_at_index item (key, by) =
        let here = indexed.is in (
          place_with at entrance by.number,
          omega (arith, here),
          record {
            within = with_within searched line index at entrance table is indexed by.number by.state;
            there = stands_in searched line index at entrance table is indexed by.number by.state.1;
            key = key;
            further = by.further;
            is = by.is;
          },
        )

  -- ---- one index after another

  weaker : (index : ℕ) (item : Item) → IsItemBefore searched line choices table index item → IsItemBefore searched line choices table (index + 1) item
  weaker index item (place, before, here) = (place, omega (arith, before), here)

  -- what stands before the next index stands before this one or at it
  before_or_at : (index : ℕ) (place : Configuration) → index_of_place searched place < index + 1
      → (index_of_place searched place < index) ⊎ (index_of_place searched place ≡ index)
  before_or_at index place before = elim (cases_lt (index_of_place searched place) index) [
    | inl low ↦ inl low
    | inr high ↦ inr (omega (arith, high, before))
  ]

  -- the items of the states at the index were added
  pub items_more : (index at : ℕ) (entrance : Entrance) (items more : List Item) → IsIndexed (leads_in searched) (length line.letters) index at entrance
      → HasItemsBefore searched line choices table index items
      → AddsItems (IsItemFrom searched line choices table at entrance (set_of table index)) items more
      → HasItemsBefore searched line choices table (index + 1) more
  items_more index at entrance items more indexed so_far added = record {
    has = λ item (place, before, here). elim (before_or_at index place before) [
      | inl low ↦ added.keeps item (so_far.has item (place, low, here))
      | inr same ↦ added.adds item (item_of_states index at entrance indexed place item same here)
    ];
    only = λ item there. elim (added.only item there) [
      | inl old ↦ weaker index item (so_far.only item old)
      | inr from ↦ item_at_index index at entrance indexed item from
    ];
  }

  -- no place stands where the sets are empty
  pub none_in_empty : (low high : ℕ) → AreEmptyBetween table.sets.items low high → (place : Configuration) → IsConfigurationIn searched line place → IsIn table place
      → low ≤ index_of_place searched place → index_of_place searched place < high → ⊥
  none_in_empty low high empty place within inside above below =
      let there = numbered_at searched line (index_of_place searched place) table place is inside refl in
      empty.empty (index_of_place searched place) there.number above below there.has

  -- where no place stands between two indices, nothing is to be added
  pub items_on : (low high : ℕ) (items : List Item) → low ≤ high
      → ((place : Configuration) → IsConfigurationIn searched line place → IsIn table place → low ≤ index_of_place searched place → index_of_place searched place < high → ⊥)
      → HasItemsBefore searched line choices table low items → HasItemsBefore searched line choices table high items
  items_on low high items more none so_far = record {
    has = λ item (place, before, here). elim (cases_lt (index_of_place searched place) low) [
      | inl earlier ↦ so_far.has item (place, earlier, here)
      | inr between ↦ absurd (none place here.within here.there between before)
    ];
    only = λ item there. (let (place, before, here) = so_far.only item there in (place, omega (arith, before, more), here));
  }

-- ---- the whole table

module _ (searched : SearchedLexicon) (line : Line) (choices : List Choice) (table : Table) (chart : IsChartTable searched line choices table) where
  -- before the first index stands nothing
  pub no_items : (items : List Item) → items ≡ [] → HasItemsBefore searched line choices table 0 items
  no_items items none = subst (HasItemsBefore searched line choices table 0) (sym none) (record {
    has = λ item (place, before, here). absurd (omega (arith, before));
    only = λ item (k, low, same). absurd (omega (arith, low));
  })

  -- in a chart a key goes on to a place of the table exactly where it goes on to a living one
  alive_if_further : (here : NumberedConfiguration) (key : Key) → GoesFurtherBy searched line choices table here key → GoesOnAlive searched line choices here key
  alive_if_further here key (inl ends) = inl ends
  alive_if_further here key (inr (next, leads, inside)) = inr (next, leads, (chart.exact next leads.within).0 inside)

  further_if_alive : (here : NumberedConfiguration) (key : Key) → GoesOnAlive searched line choices here key → GoesFurtherBy searched line choices table here key
  further_if_alive here key (inl ends) = inl ends
  further_if_alive here key (inr (next, leads, alive)) = inr (next, leads, (chart.exact next leads.within).1 alive)

  -- a living place stands before the end of the table
  before_end : (place : Configuration) → IsConfigurationIn searched line place → IsIn table place → index_of_place searched place < length table.sets.items
  before_end place within there =
      let low = index_within searched line place there.entrance within in
      let count = chart.lawful.count in
      omega (arith, low, count)

  -- the items of all places are those of the answers
  pub summary_of_table : (items sorted : List Item) → IsSearchedLexicon searched → IsLine line
      → HasItemsBefore searched line choices table (length table.sets.items) items → IsStrictlySortedBy compare_items sorted
      → ((item : Item) → Contains sorted item ↔ Contains items item) → IsSummary searched.lexicon line choices sorted
  summary_of_table items sorted is line_is all rising same = record {
    rising = rising;
    members = λ item. (
      λ there.
          let (place, before, here) = all.only item ((same item).0 there) in
          item_of_answer searched line choices is line_is item (record {
            place = place;
            within = here.within;
            alive = (chart.exact place here.within).0 here.there;
            key = here.key;
            further = alive_if_further (numbered_of searched place) here.key here.further;
            is = here.is;
          }),
      λ answer.
          let living = item_of_living searched line choices is line_is item answer in
          let there = (chart.exact living.place living.within).1 living.alive in
          (same item).1 (all.has item (
            living.place,
            before_end living.place living.within there,
            record {
              within = living.within;
              there = there;
              key = living.key;
              further = further_if_alive (numbered_of searched living.place) living.key living.further;
              is = living.is;
            },
          )),
    );
  }
