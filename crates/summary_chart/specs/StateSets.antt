-- Sets of numbered states of the grammar's machine, and what becomes of them by one phase more (own).
use Rattle.std.specs.Prelude.{◌≡◌, ℕ, ◌<◌, ◌↔◌, ◌⊎◌, IsTrue, Some, length, get_or}
use Rattle.std.specs.Int.{IsBitSet}
use Rattle.phase_automaton.specs.Automata.{StateMachine, next_state, is_accepting}
use Rattle.summary_chart.specs.declared.state_set.StateSet.{StateSet}
use Rattle.summary_chart.specs.declared.leading_states.LeadingStates.{LeadingStates}

-- the state with this number is in the set
abbrev pub HasState : StateSet → ℕ → Type 0
HasState set number = IsBitSet set.bits number

-- the set is this state with the others, and these are a set with a lower number
pub record IsSplitInto (set : StateSet) (first : ℕ) (others : StateSet) : Type 0 where
  pub small : first < 32
  pub parts : (number : ℕ) → HasState set number ↔ (HasState others number ⊎ (number ≡ first))
  pub fewer : others.bits < set.bits

-- a state of the set that is one of the machine
abbrev pub IsStateOf : StateMachine → StateSet → ℕ → Type 0
IsStateOf machine set number = (number < length machine.states) × HasState set number

-- a state of the set leads by the phase to this state
abbrev pub IsLedTo : StateMachine → StateSet → ℕ → ℕ → Type 0
IsLedTo machine set phase number =
    (from : ℕ) × IsStateOf machine set from × (next_state machine (Some from) phase ≡ Some number)

-- the state is in the set, and leads by the phase to one that ends words
abbrev pub IsAcceptedBy : StateMachine → StateSet → ℕ → ℕ → Type 0
IsAcceptedBy machine set phase number =
    IsStateOf machine set number × IsTrue (is_accepting machine (next_state machine (Some number) phase))

-- the state is in the set, and leads by the phase to one of the targets
abbrev pub LeadsInto : StateMachine → StateSet → ℕ → StateSet → ℕ → Type 0
LeadsInto machine set phase targets number =
    IsStateOf machine set number × ((to : ℕ) × (next_state machine (Some number) phase ≡ Some to) × IsStateOf machine targets to)

-- the state leads by the phase to another
abbrev pub LeadsOn : StateMachine → ℕ → ℕ → Type 0
LeadsOn machine phase number = (number < length machine.states) × ((to : ℕ) × (next_state machine (Some number) phase ≡ Some to))

-- some state leads by the phase to this one
abbrev pub IsReached : StateMachine → ℕ → ℕ → Type 0
IsReached machine phase number = (from : ℕ) × (from < length machine.states) × (next_state machine (Some from) phase ≡ Some number)

-- for each phase these are the states that lead by it to another, and those to which they lead
pub record AreLeading (machine : StateMachine) (leading : LeadingStates) : Type 0 where
  pub leads : (phase number : ℕ) → phase < machine.phases
      → HasState (get_or leading.by_phase phase (record { bits = 0 })) number ↔ LeadsOn machine phase number
  pub reaches : (phase number : ℕ) → phase < machine.phases
      → HasState (get_or leading.reached phase (record { bits = 0 })) number ↔ IsReached machine phase number
