-- One turn of the pass back: of the places at an index those stay from which a key ends the line or leads to a place of the
-- table, which stands later and so is living; so those that stay are living, and each living one stays.
use Rattle.std.proofs.Common.{◌≡◌, ◌≢◌, ℕ, ◌+◌, ◌<◌, ◌≤◌, inl, inr, List, [], ◌∷◌, length, sym, ap, subst, ◌∙◌, arith}
use Rattle.std.proofs.lemmas.Bool.{cases_lt}
use Rattle.text_definitions.specs.Lines.{Line}
use Rattle.segmentation_definitions.specs.Items.{Choice}
use Rattle.segmentation_definitions.specs.Listings.{Key}
use Rattle.listing_laws.specs.Ways.{IsPath, HasPath}
use Rattle.derivation.specs.declared.entrance.Entrance.{Entrance}
use Rattle.annotated_trie.specs.Searched.{SearchedLexicon, IsSearchedLexicon}
use Rattle.search_frames.specs.declared.configuration.Configuration.{Configuration}
use Rattle.search_frames.specs.Configurations.{NumberedConfiguration, ways_in}
use Rattle.search_frames.specs.Frames.{IsConfigurationIn, numbered_of}
use Rattle.search_frames.specs.Tests.{LeadsTo}
use Rattle.search_frames.specs.Reached.{IsReached}
use Rattle.summary_chart.specs.declared.state_set.StateSet.{StateSet}
use Rattle.summary_chart.specs.declared.table.Table.{Table}
use Rattle.summary_chart.specs.StateSets.{HasState}
use Rattle.summary_chart.specs.Tables.{IsTable, IsIn, IsIndexed, AreEntrances, ChangesAt, HasThisState, set_of, set_at}
use Rattle.summary_chart.specs.Spreading.{AreGoingFurther, GoesFurther, EveryKey, leads_in}
use Rattle.summary_chart.specs.Charts.{HasReached, IsAliveFrom, IsChartTable, IsAlive, index_of_place, set_count}
use Rattle.summary_chart.proofs.TableStates.{stands_in, at_index, same_configuration, index_within}
use Rattle.summary_chart.proofs.ProgramPlaces.{led_place}
use Rattle.summary_chart.proofs.ReachedPlaces.{later_if_led}

-- ---- going further and paths

-- a path from where a key leads to is, with this key before it, a path
path_on : (searched : SearchedLexicon) (line : Line) (choices : List Choice) (here : NumberedConfiguration) (key : Key) (next : Configuration)
    → LeadsTo searched line choices here key next → HasPath (ways_in searched line choices) (numbered_of searched next)
    → HasPath (ways_in searched line choices) here
path_on searched line choices here key next leads ([], path) = absurd path
path_on searched line choices here key next leads (later ∷ keys, path) =
    (key ∷ later ∷ keys, (numbered_of searched next, (leads.leads_on, leads.is), path))

module _ (searched : SearchedLexicon) (line : Line) (choices : List Choice) (table : Table) (is : IsSearchedLexicon searched)
    (has : HasReached searched line choices table) where
  -- from a living place some key goes further
  further_if_path : (keys : List Key) (here : NumberedConfiguration) → IsReached searched line choices here → IsPath (ways_in searched line choices) here keys
      → GoesFurther searched line choices table here EveryKey
  further_if_path [] here reached path = absurd path
  further_if_path (key ∷ []) here reached path = (key, tt, inl path)
  further_if_path (key ∷ later ∷ keys) here reached (next, leads, path) =
      let led = led_place searched line choices here next key is reached leads in
      let alive : IsAlive searched line choices led.place = record {
        reached = led.reached;
        path = subst (HasPath (ways_in searched line choices)) (sym led.is) (later ∷ keys, path);
      } in
      (key, tt, inr (led.place, led.leads, has.living led.place led.leads.within alive))

module _ (searched : SearchedLexicon) (line : Line) (choices : List Choice) (index at : ℕ) (entrance : Entrance) (old : Table)
    (is : IsSearchedLexicon searched) (from : IsAliveFrom searched line choices (index + 1) old)
    (indexed : IsIndexed (leads_in searched) (length line.letters) index at entrance) where
  -- a place at the index from which a key goes further is living
  alive_if_further : (place : Configuration) → IsConfigurationIn searched line place → IsIn old place → index_of_place searched place ≡ index
      → GoesFurther searched line choices old (numbered_of searched place) EveryKey → IsAlive searched line choices place
  alive_if_further place within inside same (key, told, inl ends) =
      record { reached = from.has.reached place within inside; path = (key ∷ [], ends) }
  alive_if_further place within inside same (key, told, inr (next, leads, next_in)) =
      let reached = from.has.reached place within inside in
      let later = later_if_led searched line choices place next key old is within inside reached leads in
      let alive = from.alive next leads.within (omega (arith, later.later, same)) next_in in
      record { reached = reached; path = path_on searched line choices (numbered_of searched place) key next leads alive.path }

  module _ (new : Table) (living : StateSet) (changes : ChangesAt index old new) (set : set_of new index ≡ living)
      (going : AreGoingFurther searched line choices old at entrance (set_of old index) EveryKey living) where
    lawful_new : IsTable (leads_in searched) (length line.letters) new
    lawful_new = record {
      entrances = subst (λ entrances. AreEntrances (length (leads_in searched)) entrances) (ap (λ e. e.items) (sym changes.entrances)) from.has.lawful.entrances;
      count = changes.count ∙ from.has.lawful.count;
      bits = changes.bits;
    }

    -- at another index the same stands in both
    set_there : (place : Configuration) → index_of_place searched place ≢ index → set_at new place.at place.entrance ≡ set_at old place.at place.entrance
    set_there place other =
        let new_place = same_configuration (leads_in searched) (length line.letters) place.at place.entrance new lawful_new in
        let old_place = same_configuration (leads_in searched) (length line.letters) place.at place.entrance old from.has.lawful in
        ap (set_of new) new_place ∙ changes.others (index_of_place searched place) other ∙ ap (set_of old) (sym old_place)

    old_there : (place : Configuration) → index_of_place searched place ≢ index → IsIn new place → IsIn old place
    old_there place other inside = record {
      entrance = inside.entrance;
      state = subst (λ (s : StateSet). HasThisState s place.state) (set_there place other) inside.state;
    }

    new_there : (place : Configuration) → index_of_place searched place ≢ index → IsIn old place → IsIn new place
    new_there place other inside = record {
      entrance = inside.entrance;
      state = subst (λ (s : StateSet). HasThisState s place.state) (sym (set_there place other)) inside.state;
    }

    -- at the index just those that go further stay
    pub record Stays (place : Configuration) : Type 0 where
      pub was : IsIn old place
      pub further : GoesFurther searched line choices old (numbered_of searched place) EveryKey

    stays_at : (place : Configuration) → IsConfigurationIn searched line place → index_of_place searched place ≡ index → IsIn new place → Stays place
    stays_at place within same inside =
        let here = at_index searched line index at entrance new lawful_new indexed place within inside same in
        let (state, further) = (going here.number).0 (subst (λ (s : StateSet). HasState s here.number) set here.state.1) in
        record {
          was = subst (IsIn old) (sym here.is) (stands_in searched line index at entrance old from.has.lawful indexed here.number state.1);
          further = subst (λ (p : Configuration). GoesFurther searched line choices old (numbered_of searched p) EveryKey) (sym here.is) further;
        }

    new_at : (place : Configuration) → IsConfigurationIn searched line place → index_of_place searched place ≡ index → Stays place → IsIn new place
    new_at place within same stays =
        let here = at_index searched line index at entrance old from.has.lawful indexed place within stays.was same in
        let has = (going here.number).1 (
          here.state,
          subst (λ (p : Configuration). GoesFurther searched line choices old (numbered_of searched p) EveryKey) here.is stays.further,
        ) in
        subst (IsIn new) (sym here.is)
        (stands_in searched line index at entrance new lawful_new indexed here.number (subst (λ (s : StateSet). HasState s here.number) (sym set) has))

    pub old_if_new : (place : Configuration) → IsConfigurationIn searched line place → IsIn new place → IsIn old place
    old_if_new place within inside = elim (cases_lt index (index_of_place searched place)) [
      | inl later ↦ old_there place (λ e. omega arith) inside
      | inr low ↦ elim (cases_lt (index_of_place searched place) index) [
        | inl earlier ↦ old_there place (λ e. omega arith) inside
        | inr high ↦ (stays_at place within (omega arith) inside).was
      ]
    ]

    living_new : (place : Configuration) → IsConfigurationIn searched line place → IsAlive searched line choices place → IsIn new place
    living_new place within alive =
        let was = from.has.living place within alive in
        elim (cases_lt index (index_of_place searched place)) [
          | inl later ↦ new_there place (λ e. omega arith) was
          | inr low ↦ elim (cases_lt (index_of_place searched place) index) [
            | inl earlier ↦ new_there place (λ e. omega arith) was
            | inr high ↦
                new_at place within (omega arith) (record {
                  was = was;
                  further = further_if_path searched line choices old is from.has alive.path.0 (numbered_of searched place) alive.reached alive.path.1;
                })
          ]
        ]

    pub gather_back : IsAliveFrom searched line choices index new
    gather_back = record {
      has = record {
        lawful = lawful_new;
        reached = λ place within inside. from.has.reached place within (old_if_new place within inside);
        living = living_new;
      };
      alive = λ place within low inside. elim (cases_lt index (index_of_place searched place)) [
        | inl later ↦ from.alive place within (omega arith) (old_there place (λ e. omega arith) inside)
        | inr high ↦
            let same : index_of_place searched place ≡ index = omega arith in
            let stays = stays_at place within same inside in
            alive_if_further place within stays.was same stays.further
      ];
    }

-- where no place stands between two indices, nothing is to be done there
pub living_down : (searched : SearchedLexicon) (line : Line) (choices : List Choice) (low high : ℕ) (table : Table)
    → IsAliveFrom searched line choices high table
    → ((place : Configuration) → IsConfigurationIn searched line place → IsIn table place → low ≤ index_of_place searched place → index_of_place searched place < high → ⊥)
    → IsAliveFrom searched line choices low table
living_down searched line choices low high table from none = record {
  has = from.has;
  alive = λ place within above inside. elim (cases_lt (index_of_place searched place) high) [
    | inl between ↦ absurd (none place within inside above between)
    | inr beyond ↦ from.alive place within beyond inside
  ];
}

-- before the pass
pub reached_back : (searched : SearchedLexicon) (line : Line) (choices : List Choice) (table : Table) → HasReached searched line choices table
    → IsAliveFrom searched line choices (set_count searched line) table
reached_back searched line choices table has = record {
  has = has;
  alive = λ place within high inside. (let low = index_within searched line place inside.entrance within in absurd (omega (arith, low, high)));
}

-- after it
pub chart_if_alive : (searched : SearchedLexicon) (line : Line) (choices : List Choice) (table : Table) → IsAliveFrom searched line choices 0 table
    → IsChartTable searched line choices table
chart_if_alive searched line choices table from = record {
  lawful = from.has.lawful;
  exact = λ place within. ((λ inside. from.alive place within (omega arith) inside), (λ alive. from.has.living place within alive));
}
