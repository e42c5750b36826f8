-- The table in which the program keeps an automaton, and the states by number that it stands for.
use Rattle.std.specs.Prelude.{◌≡◌, ℕ, ◌+◌, ◌*◌, ◌<◌, ◌≤◌, Bool, false, Option, Some, None, List, length, map, slice_index_or}
use Rattle.std.specs.List.{range_with_len}
use Rattle.lexicon_definitions.specs.declared.limits.TheConstants.{MOST_GRAMMAR_STATES}
use Rattle.phase_automaton.specs.Automata.{NumberedState, StateMachine}

-- how many phases there are, the state after each state and phase, state by state, and which states end words
pub record Table : Type 0 where
  pub phases : ℕ
  pub steps : List (Option ℕ)
  pub accepting : List Bool

-- the state is one of so many, or the dead one
abbrev pub IsBelow : ℕ → Option ℕ → Type 0
IsBelow count None = Unit {0}
IsBelow count (Some number) = number < count

-- a table has a row for each state, and leads from its states to its states
pub record IsTable (table : Table) : Type 0 where
  pub some : 0 < length table.accepting
  pub few : length table.accepting ≤ MOST_GRAMMAR_STATES
  pub rows : length table.steps ≡ length table.accepting * table.phases
  pub within : (at : ℕ) → IsBelow (length table.accepting) (slice_index_or table.steps at None)

-- the first so many values of a function, from that of 0
abbrev pub first_values : {A : Type 0} → (ℕ → A) → ℕ → List A
first_values f count = map f (range_with_len 0 count)

-- the state after this phase in the row with this number
abbrev pub step_at : Table → ℕ → ℕ → Option ℕ
step_at table number phase = slice_index_or table.steps (number * table.phases + phase) None

-- the row with this number as a state
abbrev pub row_state : Table → ℕ → NumberedState
row_state table number = record {
  accepting = slice_index_or table.accepting number false;
  next = first_values (step_at table number) table.phases;
}

-- the states by number that the table stands for
unfoldable pub machine_of : Table → StateMachine
machine_of table = record { phases = table.phases; states = first_values (row_state table) (length table.accepting) }
