-- The sets of positions that lists of phases lead to (own, after the subset automata of regular languages).
use Rattle.std.specs.Prelude.{◌≡◌, ◌≢◌, ℕ, ◌<◌, ◌≤◌, ◌↔◌, ◌⊎◌, IsTrue, Option, Some, None, List, [], ◌∷◌, ◌++◌, length, slice_index_or}
use Rattle.phase_automaton.specs.declared.position_set.PositionSet.{PositionSet}
use Rattle.phase_automaton.specs.declared.position.Position.{Position}
use Rattle.phase_automaton.specs.PositionSets.{HasPosition}
use Rattle.phase_automaton.specs.Readers.{IsStep}
use Rattle.lexicon_definitions.specs.declared.limits.TheConstants.{MOST_GRAMMAR_STATES}
use Rattle.phase_automaton.specs.Automata.{StateMachine, numbered, next_state, is_accepting}

-- the position can be reached from position 0 by these phases, of which the newest comes first
abbrev pub IsReached : List Position → List ℕ → ℕ → Type 0
IsReached positions [] position = position ≡ 0
IsReached positions (phase ∷ before) position =
    (earlier : ℕ) × IsReached positions before earlier × IsStep positions earlier phase position

-- a position of the set is followed by this one, in which the phase is read
abbrev pub IsSetStep : List Position → PositionSet → ℕ → ℕ → Type 0
IsSetStep positions set phase position = (earlier : ℕ) × HasPosition set earlier × IsStep positions earlier phase position

-- the set has the positions that some list of phases leads to, of which there are some
pub record IsReachedSet (positions : List Position) (set : PositionSet) : Type 0 where
  pub phases : List ℕ
  pub has : (position : ℕ) → HasPosition set position ↔ IsReached positions phases position
  pub some : (position : ℕ) × HasPosition set position

-- the set with this number
abbrev pub set_at : List PositionSet → ℕ → PositionSet
set_at sets number = slice_index_or sets number (record { bits = 0 })

-- different sets, each of which some list leads to
pub record AreSets (positions : List Position) (sets : List PositionSet) : Type 0 where
  pub distinct : (i j : ℕ) → i < j → j < length sets → set_at sets i ≢ set_at sets j
  pub each : (i : ℕ) → i < length sets → IsReachedSet positions (set_at sets i)

-- no more sets than an automaton may have states, of which the first is that of position 0
pub record AreStates (positions : List Position) (sets : List PositionSet) : Type 0 where
  pub some : 0 < length sets
  pub few : length sets ≤ MOST_GRAMMAR_STATES
  pub first : (position : ℕ) → HasPosition (set_at sets 0) position ↔ (position ≡ 0)
  pub are : AreSets positions sets

-- more sets than that
abbrev pub HasMoreSets : List Position → Type 0
HasMoreSets positions = (sets : List PositionSet) × (MOST_GRAMMAR_STATES < length sets) × AreSets positions sets

-- the state stands for the set with these positions; the dead state stands for the empty set
abbrev pub StandsFor : List PositionSet → Option ℕ → (ℕ → Type 0) → Type 0
StandsFor sets None Has = (position : ℕ) → Has position → ⊥
StandsFor sets (Some number) Has =
    (number < length sets) × ((position : ℕ) → HasPosition (set_at sets number) position ↔ Has position)

-- the sets are these, and perhaps more after them
pub record Extends (old new : List PositionSet) : Type 0 where
  pub longer : length old ≤ length new
  pub same : (i : ℕ) → i < length old → set_at new i ≡ set_at old i

-- the machine's states stand for sets, its steps for their steps, and the sets that end words meet these positions
pub record IsSubsetMachine (positions : List Position) (ends : PositionSet) (machine : StateMachine) : Type 0 where
  pub sets : List PositionSet
  pub states : AreStates positions sets
  pub count : length machine.states ≡ length sets
  pub each_phase : (number : ℕ) → number < length sets → length (numbered machine number).next ≡ machine.phases
  pub steps : (number phase : ℕ) → number < length sets → phase < machine.phases
      → StandsFor sets (next_state machine (Some number) phase) (IsSetStep positions (set_at sets number) phase)
  pub accepting : (number : ℕ) → number < length sets
      → IsTrue (is_accepting machine (Some number))
      ↔ ((position : ℕ) × HasPosition (set_at sets number) position × HasPosition ends position)

-- the set is not one of these, and not empty
pub record IsNewSet (sets : List PositionSet) (set : PositionSet) : Type 0 where
  pub other : (i : ℕ) → i < length sets → set_at sets i ≢ set
  pub some : (position : ℕ) × HasPosition set position

-- the state that was found for a set, and the sets with it: the dead state for the empty set, the set's number where it is one of
-- them, and otherwise the next number
abbrev pub FindsState : List PositionSet → List PositionSet → PositionSet → Option ℕ → Type 0
FindsState old new set None = (new ≡ old) × ((position : ℕ) → HasPosition set position → ⊥)
FindsState old new set (Some number) =
    ((new ≡ old) × (number < length old) × (set_at old number ≡ set))
    ⊎ ((new ≡ old ++ set ∷ []) × (number ≡ length old) × IsNewSet old set)

-- the steps of one state, phase by phase
abbrev pub AreStepsOf : List Position → List PositionSet → PositionSet → List (Option ℕ) → Type 0
AreStepsOf positions sets set row =
    (phase : ℕ) → phase < length row → StandsFor sets (slice_index_or row phase None) (IsSetStep positions set phase)

-- some steps more
abbrev pub AddsRow : List Position → List PositionSet → PositionSet → List (Option ℕ) → List (Option ℕ) → ℕ → Type 0
AddsRow positions sets set old new phases =
    (row : List (Option ℕ)) × (new ≡ old ++ row) × (length row ≡ phases) × AreStepsOf positions sets set row
