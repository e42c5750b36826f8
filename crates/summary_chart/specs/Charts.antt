-- What a chart has: just the places that a search comes to and from which there is a path to an answer (own).
use Rattle.std.specs.Prelude.{◌≡◌, ℕ, ◌+◌, ◌*◌, ◌<◌, ◌≤◌, ◌↔◌, Bool, true, false, nat_eq, nat_lt, bit_and, not, ◌^◌, ◌&&◌, if◌then◌else◌, Option, Some, None, List, length}
use Rattle.text_definitions.specs.Lines.{Line}
use Rattle.segmentation_definitions.specs.Items.{Choice}
use Rattle.segmentation_definitions.specs.Listings.{Key}
use Rattle.listing_laws.specs.Ways.{HasPath}
use Rattle.derivation.specs.declared.entrance.Entrance.{Entrance}
use Rattle.derivation.specs.declared.entrance.Entrance.TheVariants.{Start, Plain, Lead as ByLead}
use Rattle.annotated_trie.specs.Searched.{SearchedLexicon}
use Rattle.search_frames.specs.declared.configuration.Configuration.{Configuration}
use Rattle.search_frames.specs.Configurations.{ways_in, opening}
use Rattle.search_frames.specs.Frames.{IsConfigurationIn, numbered_of}
use Rattle.search_frames.specs.Tests.{LeadsTo}
use Rattle.search_frames.specs.Reached.{IsReached}
use Rattle.summary_chart.specs.declared.state_set.StateSet.{StateSet}
use Rattle.summary_chart.specs.declared.table.Table.{Table}
use Rattle.summary_chart.specs.Tables.{IsTable, IsIn, HasSet, IsStateNumber, width_over, index_of, set_at}
use Rattle.summary_chart.specs.Spreading.{leads_in}

-- a search comes to the place, and there is a path from it to an answer
pub record IsAlive (searched : SearchedLexicon) (line : Line) (choices : List Choice) (place : Configuration) : Type 0 where
  pub reached : IsReached searched line choices (numbered_of searched place)
  pub path : HasPath (ways_in searched line choices) (numbered_of searched place)

-- the table has just the living places of the lexicon, the line and the choices
pub record IsChartTable (searched : SearchedLexicon) (line : Line) (choices : List Choice) (table : Table) : Type 0 where
  pub lawful : IsTable (leads_in searched) (length line.letters) table
  pub exact : (place : Configuration) → IsConfigurationIn searched line place → IsIn table place ↔ IsAlive searched line choices place

-- the state is in the set, as a value
abbrev pub has_state : StateSet → Option ℕ → Bool
has_state set None = false
has_state set (Some number) = not (nat_eq (bit_and set.bits (2 ^ number)) 0)

-- where a place stands in the order of a table
abbrev pub index_of_place : SearchedLexicon → Configuration → ℕ
index_of_place searched place = index_of (length (leads_in searched)) place.at place.entrance

-- the table has only places that a search comes to, and each living one
pub record HasReached (searched : SearchedLexicon) (line : Line) (choices : List Choice) (table : Table) : Type 0 where
  pub lawful : IsTable (leads_in searched) (length line.letters) table
  pub reached : (place : Configuration) → IsConfigurationIn searched line place → IsIn table place
      → IsReached searched line choices (numbered_of searched place)
  pub living : (place : Configuration) → IsConfigurationIn searched line place → IsAlive searched line choices place → IsIn table place

-- before a pass comes to the index: the table has only places that a search comes to, the opening, and wherever a key leads on
-- to from a place before the index
pub record IsReachedBefore (searched : SearchedLexicon) (line : Line) (choices : List Choice) (index : ℕ) (table : Table) : Type 0 where
  pub lawful : IsTable (leads_in searched) (length line.letters) table
  pub reached : (place : Configuration) → IsConfigurationIn searched line place → IsIn table place
      → IsReached searched line choices (numbered_of searched place)
  pub begun : (place : Configuration) → IsConfigurationIn searched line place → numbered_of searched place ≡ opening → IsIn table place
  pub closed : (place next : Configuration) (key : Key) → IsConfigurationIn searched line place → index_of_place searched place < index
      → IsIn table place → LeadsTo searched line choices (numbered_of searched place) key next → IsIn table next

-- and on the way back: from the index on it has only living places
pub record IsAliveFrom (searched : SearchedLexicon) (line : Line) (choices : List Choice) (index : ℕ) (table : Table) : Type 0 where
  pub has : HasReached searched line choices table
  pub alive : (place : Configuration) → IsConfigurationIn searched line place → index ≤ index_of_place searched place → IsIn table place
      → IsAlive searched line choices place

-- how many sets the table has
abbrev pub set_count : SearchedLexicon → Line → ℕ
set_count searched line = (length line.letters + 1) * width_over (length (leads_in searched))

-- the table has the opening alone
pub record IsOpenTable (searched : SearchedLexicon) (line : Line) (table : Table) : Type 0 where
  pub lawful : IsTable (leads_in searched) (length line.letters) table
  pub exact : (place : Configuration) → IsConfigurationIn searched line place → IsIn table place ↔ (numbered_of searched place ≡ opening)

-- the table can be asked of this place
abbrev pub CoversPlace : Table → ℕ → Entrance → Option ℕ → Type 0
CoversPlace table at entrance state = HasSet table at entrance × IsStateNumber state

-- the entrance is one of the program's, as a value
abbrev pub is_entrance : Entrance → Bool
is_entrance (ByLead place) = true
is_entrance Start = true
is_entrance (Plain letter) = nat_lt 0 letter && nat_lt letter 51

-- what it says of the place
abbrev pub says_of : Table → ℕ → Entrance → Option ℕ → Bool
says_of table at entrance state = if is_entrance entrance then has_state (set_at table at entrance) state else false
