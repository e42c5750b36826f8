-- A table of sets of states: one for each number of letters derived and each entrance (own).
use Rattle.std.specs.Prelude.{◌≡◌, ◌≢◌, ℕ, ◌+◌, ◌-◌, ◌*◌, ◌/◌, ◌%◌, ◌<◌, ◌≤◌, Option, Some, None, List, length, slice_index_or}
use Rattle.std.specs.Int.{IsBitSet}
use Rattle.text_definitions.specs.Letters.{IsLetter}
use Rattle.lexicon_definitions.specs.Leads.{Lead}
use Rattle.derivation.specs.Guides.{IsEntranceOver}
use Rattle.derivation.specs.declared.entrance.Entrance.{Entrance}
use Rattle.derivation.specs.declared.entrance.Entrance.TheVariants.{Start, Plain, Lead as ByLead}
use Rattle.search_frames.specs.declared.configuration.Configuration.{Configuration}
use Rattle.summary_chart.specs.declared.state_set.StateSet.{StateSet}
use Rattle.summary_chart.specs.declared.table.Table.{Table}
use Rattle.summary_chart.specs.StateSets.{HasState}

-- how many entrances there are over so many leads: these, the start, and one for each of the fifty letters
abbrev pub width_over : ℕ → ℕ
width_over leads = leads + 51

-- the column of an entrance, counted from 0: the leads come first, since a form that is entered by one has the lower rank
abbrev pub column_of : ℕ → Entrance → ℕ
column_of leads (ByLead place) = place
column_of leads Start = leads
column_of leads (Plain letter) = leads + letter

-- the entrance is one of the program's: where it is by a letter, this is one of the fifty
abbrev pub IsEntrance : Entrance → Type 0
IsEntrance (ByLead place) = Unit {0}
IsEntrance Start = Unit {0}
IsEntrance (Plain letter) = IsLetter letter

-- where the set of an entrance stands in the table: a row for each number of letters
abbrev pub index_of : ℕ → ℕ → Entrance → ℕ
index_of leads at entrance = at * width_over leads + column_of leads entrance

-- how many leads the table has entrances for
abbrev pub leads_of_table : Table → ℕ
leads_of_table table = length table.entrances.items - 51

-- where the set of an entrance stands in the table
abbrev pub index_in : Table → ℕ → Entrance → ℕ
index_in table at entrance = index_of (leads_of_table table) at entrance

-- where a set has a state, its bit is set, in words of 64; and each bit that is set is that of a set
pub record AreMarked (sets : List StateSet) (filled : List ℕ) : Type 0 where
  pub each : (index number : ℕ) → HasState (slice_index_or sets index (record { bits = 0 })) number
      → IsBitSet (slice_index_or filled (index / 64) 0) (index % 64)
  pub within : (index : ℕ) → IsBitSet (slice_index_or filled (index / 64) 0) (index % 64) → index < length sets

-- each set has a bit, in words of which at most one is not needed
pub record HaveBits (sets : List StateSet) (filled : List ℕ) : Type 0 where
  pub count : length filled ≡ length sets / 64 + 1
  pub marked : AreMarked sets filled

-- the table has a set there, where the entrance is one of the program's
pub record HasSet (table : Table) (at : ℕ) (entrance : Entrance) : Type 0 where
  pub wide : 51 ≤ length table.entrances.items
  pub there : IsEntrance entrance → index_in table at entrance < length table.sets.items
  pub bits : HaveBits table.sets.items table.filled.items

-- the set at an index
abbrev pub set_of : Table → ℕ → StateSet
set_of table index = slice_index_or table.sets.items index (record { bits = 0 })

-- the set after so many letters, at an entrance
abbrev pub set_at : Table → ℕ → Entrance → StateSet
set_at table at entrance = set_of table (index_in table at entrance)

-- the state is in the set; the dead state is in no set
abbrev pub HasThisState : StateSet → Option ℕ → Type 0
HasThisState set None = ⊥
HasThisState set (Some number) = HasState set number

-- the state's number may stand in a set; the dead state has no number
abbrev pub IsStateNumber : Option ℕ → Type 0
IsStateNumber None = Unit {0}
IsStateNumber (Some number) = number < 32

-- the place is in the table: its entrance is one of the program's, and its state is in the set there
pub record IsIn (table : Table) (place : Configuration) : Type 0 where
  pub entrance : IsEntrance place.entrance
  pub state : HasThisState (set_at table place.at place.entrance) place.state

-- these are the entrances over so many leads, each in its column
pub record AreEntrances (leads : ℕ) (entrances : List Entrance) : Type 0 where
  pub width : length entrances ≡ width_over leads
  pub columns : (column : ℕ) → column < width_over leads → column_of leads (slice_index_or entrances column Start) ≡ column
  pub each : (column : ℕ) → column < width_over leads → IsEntrance (slice_index_or entrances column Start)
  pub over : (column place : ℕ) → column < width_over leads → slice_index_or entrances column Start ≡ ByLead place → place < leads

-- a table, of whatever line, that can be emptied: its bits are those of its sets, and it has no entrances, or those over some number of leads
pub record CanBeEmptied (table : Table) : Type 0 where
  pub marked : AreMarked table.sets.items table.filled.items
  pub entrances : 51 ≤ length table.entrances.items → AreEntrances (leads_of_table table) table.entrances.items

-- the table has the entrances over the leads, and a row of sets for each number of letters up to all of them
pub record IsTable (leads : List Lead) (letters : ℕ) (table : Table) : Type 0 where
  pub entrances : AreEntrances (length leads) table.entrances.items
  pub count : length table.sets.items ≡ (letters + 1) * width_over (length leads)
  pub bits : HaveBits table.sets.items table.filled.items

-- the set at the index is that after so many letters, at this entrance
pub record IsIndexed (leads : List Lead) (letters index at : ℕ) (entrance : Entrance) : Type 0 where
  pub is : index_of (length leads) at entrance ≡ index
  pub within : at ≤ letters
  pub over : IsEntranceOver leads entrance
  pub proper : IsEntrance entrance

-- the second index does not come before the first, and the sets from the first up to before the second are empty
pub record AreEmptyBetween (sets : List StateSet) (from until : ℕ) : Type 0 where
  pub rises : from ≤ until
  pub within : until ≤ length sets
  pub empty : (index number : ℕ) → from ≤ index → index < until → HasState (slice_index_or sets index (record { bits = 0 })) number → ⊥

-- only the set at the index changes, and all sets still have their bits
pub record ChangesAt (index : ℕ) (old new : Table) : Type 0 where
  pub entrances : new.entrances ≡ old.entrances
  pub count : length new.sets.items ≡ length old.sets.items
  pub others : (other : ℕ) → other ≢ index → set_of new other ≡ set_of old other
  pub bits : HaveBits new.sets.items new.filled.items
