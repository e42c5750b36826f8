-- What contracts see of an automaton: its states by their numbers, and which state of a grammar each number stands for (own,
-- after the subset automata of regular languages).
use Rattle.std.specs.Prelude.{◌≡◌, ◌≢◌, ℕ, ◌<◌, ◌≤◌, ◌↔◌, Bool, false, IsTrue, IsSome, Option, Some, None, List, [], ◌++◌, length, fold, slice_index_or, All, AllPairs}
use Rattle.lexicon_definitions.specs.declared.limits.TheConstants.{MOST_GRAMMAR_STATES}
use Rattle.lexicon_definitions.specs.Grammars.{Grammar, State, After, Accepts, IsStateAfter, IsLiveState, HaveSamePositions}

-- a state is its number, counted from 0, or the dead state, which is None. A numbered state ends words or not, and leads to
-- a state by each phase, by the phase's number
pub record NumberedState : Type 0 where
  pub accepting : Bool
  pub next : List (Option ℕ)

-- how many phases there are, and the numbered states by their numbers
pub record StateMachine : Type 0 where
  pub phases : ℕ
  pub states : List NumberedState

-- the state with this number
abbrev pub numbered : StateMachine → ℕ → NumberedState
numbered machine number = slice_index_or machine.states number (record { accepting = false; next = [] })

-- the state before all phases
abbrev pub start_state : Option ℕ
start_state = Some 0

-- the state after one phase more
abbrev pub next_state : StateMachine → Option ℕ → ℕ → Option ℕ
next_state machine None phase = None
next_state machine (Some number) phase = slice_index_or (numbered machine number).next phase None

-- the state after more phases
abbrev pub state_from : StateMachine → Option ℕ → List ℕ → Option ℕ
state_from machine state phases = fold (next_state machine) state phases

-- the state after a list of phases
abbrev pub state_after : StateMachine → List ℕ → Option ℕ
state_after machine phases = state_from machine start_state phases

-- the state ends words
abbrev pub is_accepting : StateMachine → Option ℕ → Bool
is_accepting machine None = false
is_accepting machine (Some number) = (numbered machine number).accepting

-- the state is one of this machine, as the dead one is of each
abbrev pub IsStateIn : StateMachine → Option ℕ → Type 0
IsStateIn machine None = Unit {0}
IsStateIn machine (Some number) = number < length machine.states

-- there is a first state, there are not too many, and each leads by each phase to a state of the machine
pub record IsStateMachine (machine : StateMachine) : Type 0 where
  pub some : 0 < length machine.states
  pub few : length machine.states ≤ MOST_GRAMMAR_STATES
  pub each_phase : (number : ℕ) → number < length machine.states → length (numbered machine number).next ≡ machine.phases
  pub within : (number phase : ℕ) → IsStateIn machine (next_state machine (Some number) phase)

-- the state of a grammar that a number stands for, where the grammar's states stand in this list by their numbers; the dead
-- state stands for the state without positions
abbrev pub state_at : List State → Option ℕ → State
state_at states None = After []
state_at states (Some number) = slice_index_or states number (After [])

-- the machine is that of the grammar. Its numbers stand for states of the grammar, different ones and each of them live, so
-- that after each list of phases the grammar is in the state that stands at the number to which the list leads. A list leads
-- to a number that ends words exactly where it is a word, and to one that is not dead exactly where some list goes on from
-- it to a word; two lists lead to one number exactly where they have the same positions after them; and some list leads to
-- each number
pub record Recognizes (machine : StateMachine) (grammar : Grammar) : Type 0 where
  pub states : List State
  pub count : length states ≡ length machine.states
  pub after : (phases : List ℕ) → IsStateAfter grammar phases (state_at states (state_after machine phases))
  pub distinct : AllPairs (λ left right. left ≢ right) states
  pub each_live : All IsLiveState states
  pub accepts : (phases : List ℕ) → IsTrue (is_accepting machine (state_after machine phases)) ↔ Accepts grammar phases
  pub live : (phases : List ℕ) → IsSome (state_after machine phases) ↔ ((rest : List ℕ) × Accepts grammar (phases ++ rest))
  pub same : (left right : List ℕ)
      → (state_after machine left ≡ state_after machine right) ↔ HaveSamePositions grammar left right
  pub within : (phases : List ℕ) → IsStateIn machine (state_after machine phases)
  pub reached : (number : ℕ) → number < length machine.states → (phases : List ℕ) × (state_after machine phases ≡ Some number)
