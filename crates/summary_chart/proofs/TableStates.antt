-- What stands in a table at an index: a place that is in the table has its state, which is a number, in the set at its index.
use Rattle.std.proofs.Common.{◌≡◌, ℕ, ◌+◌, ◌<◌, Option, Some, None, List, length, refl, sym, ap, subst, ◌∙◌, arith}
use Rattle.text_definitions.specs.Lines.{Line}
use Rattle.lexicon_definitions.specs.Leads.{Lead}
use Rattle.phase_automaton.specs.Automata.{IsStateIn}
use Rattle.derivation.specs.declared.entrance.Entrance.{Entrance}
use Rattle.annotated_trie.specs.Searched.{SearchedLexicon}
use Rattle.search_frames.specs.declared.configuration.Configuration.{Configuration}
use Rattle.search_frames.specs.Frames.{IsConfigurationIn}
use Rattle.summary_chart.specs.declared.state_set.StateSet.{StateSet}
use Rattle.summary_chart.specs.declared.table.Table.{Table}
use Rattle.summary_chart.specs.StateSets.{HasState, IsStateOf}
use Rattle.summary_chart.specs.Tables.{IsTable, IsEntrance, IsIn, IsIndexed, HasThisState, index_of, index_in, leads_of_table, width_over, set_of, set_at}
use Rattle.summary_chart.specs.Spreading.{leads_in, place_with}
use Rattle.summary_chart.specs.Charts.{index_of_place, set_count}
use Rattle.summary_chart.proofs.TableOrder.{same_index, column_within, row_after}

-- the table counts the leads that it was made for
pub same_leads : (leads : List Lead) (letters : ℕ) (table : Table) → IsTable leads letters table → leads_of_table table ≡ length leads
same_leads leads letters table is = omega (arith, is.entrances.width)

pub same_configuration : (leads : List Lead) (letters at : ℕ) (entrance : Entrance) (table : Table) → IsTable leads letters table
    → index_in table at entrance ≡ index_of (length leads) at entrance
same_configuration leads letters at entrance table is = ap (λ (n : ℕ). index_of n at entrance) (same_leads leads letters table is)

-- a state that is in a set is a number
pub record IsNumbered (set : StateSet) (state : Option ℕ) : Type 0 where
  pub number : ℕ
  pub is : state ≡ Some number
  pub has : HasState set number

pub numbered_in : (set : StateSet) (state : Option ℕ) → HasThisState set state → IsNumbered set state
numbered_in set None has = absurd has
numbered_in set (Some number) has = record { number = number; is = refl; has = has }

-- the state of a place in the table is in the set at its index
pub numbered_at : (searched : SearchedLexicon) (line : Line) (index : ℕ) (table : Table) (place : Configuration) → IsTable (leads_in searched) (length line.letters) table
    → IsIn table place → index_of_place searched place ≡ index → IsNumbered (set_of table index) place.state
numbered_at searched line index table place is inside same =
    let set_same : set_at table place.at place.entrance ≡ set_of table index =
    ap (set_of table) (same_configuration (leads_in searched) (length line.letters) place.at place.entrance table is ∙ same) in
    numbered_in (set_of table index) place.state (subst (λ (set : StateSet). HasThisState set place.state) set_same inside.state)

-- the place is that of the index, with a state of the set there
pub record IsAtIndex (searched : SearchedLexicon) (at : ℕ) (entrance : Entrance) (set : StateSet) (place : Configuration) : Type 0 where
  pub number : ℕ
  pub is : place ≡ place_with at entrance number
  pub state : IsStateOf searched.machine set number

module _ (searched : SearchedLexicon) (line : Line) (index at : ℕ) (entrance : Entrance) (table : Table)
    (is : IsTable (leads_in searched) (length line.letters) table) (indexed : IsIndexed (leads_in searched) (length line.letters) index at entrance) where
  -- the set at the index is that of its place
  pub set_is : set_at table at entrance ≡ set_of table index
  set_is = ap (set_of table) (same_configuration (leads_in searched) (length line.letters) at entrance table is ∙ indexed.is)

  -- with each state of the set there stands a place in the table
  pub stands_in : (number : ℕ) → HasState (set_of table index) number → IsIn table (place_with at entrance number)
  stands_in number has = record { entrance = indexed.proper; state = subst (λ (set : StateSet). HasState set number) (sym set_is) has }

  pub with_within : (number : ℕ) → IsStateOf searched.machine (set_of table index) number → IsConfigurationIn searched line (place_with at entrance number)
  with_within number state = record { letters = indexed.within; over = indexed.over; state_in = state.0 }

  -- and each place in the table with this index is such a one
  pub at_index : (place : Configuration) → IsConfigurationIn searched line place → IsIn table place → index_of_place searched place ≡ index
      → IsAtIndex searched at entrance (set_of table index) place
  at_index place within inside same =
      let cell = same_index (leads_in searched) place.at at place.entrance entrance inside.entrance indexed.proper within.over indexed.over (same ∙ sym indexed.is) in
      let told = numbered_at searched line index table place is inside same in
      record {
        number = told.number;
        is = λ i. record { at = cell.at_is i; entrance = cell.entrance_is i; state = told.is i };
        state = (subst (IsStateIn searched.machine) told.is within.state_in, told.has);
      }

-- a place with one of the program's entrances stands in the table
pub index_within : (searched : SearchedLexicon) (line : Line) (place : Configuration) → IsEntrance place.entrance → IsConfigurationIn searched line place
    → index_of_place searched place < set_count searched line
index_within searched line place proper within =
    let width = width_over (length (leads_in searched)) in
    let column = column_within (leads_in searched) place.entrance proper within.over in
    let low : place.at < length line.letters + 1 = omega (arith, within.letters) in
    let after = row_after width place.at (length line.letters + 1) low in
    omega (arith, after, column)
