-- A table has the states that its rows say: each row and each step is a value of a function at its number.
use Rattle.std.proofs.Common.{◌≡◌, ℕ, ◌+◌, ◌*◌, ◌<◌, ◌≤◌, inl, inr, false, Option, Some, None, [], length, get_or, refl, sym, ap, ◌∙◌, arith, subst}
use Rattle.std.proofs.lemmas.Bool.{cases_lt}
use Rattle.std.proofs.lemmas.List.{get_or_past}
use Rattle.std.proofs.lemmas.List.FromFn.{length-map-range_with_len, get_or-map-range_with_len}
use Rattle.phase_automaton.specs.Automata.{NumberedState, StateMachine, numbered, next_state, is_accepting, IsStateIn, IsStateMachine}
use Rattle.phase_automaton.specs.Tables.{Table, IsBelow, IsTable, step_at, row_state, machine_of}

pub machine_phases : (table : Table) → (machine_of table).phases ≡ table.phases
unfolding machine_of
machine_phases table = refl

pub machine_count : (table : Table) → length (machine_of table).states ≡ length table.accepting
unfolding machine_of
machine_count table = length-map-range_with_len (row_state table) 0 (length table.accepting)

pub machine_at : (table : Table) (number : ℕ) → number < length table.accepting → numbered (machine_of table) number ≡ row_state table number
unfolding machine_of
machine_at table number h =
    get_or-map-range_with_len (row_state table) 0 (length table.accepting) number number (record { accepting = false; next = [] }) h (omega arith)

-- the phases of a row
pub machine_row : (table : Table) (number : ℕ) → number < length table.accepting
    → length (numbered (machine_of table) number).next ≡ table.phases
machine_row table number h =
    ap (λ (state : NumberedState). length state.next) (machine_at table number h) ∙ length-map-range_with_len (step_at table number) 0 table.phases

pub machine_next : (table : Table) (number phase : ℕ) → number < length table.accepting → phase < table.phases
    → next_state (machine_of table) (Some number) phase ≡ step_at table number phase
machine_next table number phase h k =
    ap (λ (state : NumberedState). get_or state.next phase None) (machine_at table number h)
    ∙ get_or-map-range_with_len (step_at table number) 0 table.phases phase phase None k (omega arith)

pub machine_accepting : (table : Table) (number : ℕ) → number < length table.accepting
    → is_accepting (machine_of table) (Some number) ≡ get_or table.accepting number false
machine_accepting table number h = ap (λ (state : NumberedState). state.accepting) (machine_at table number h)

-- a number past the states leads nowhere
pub past_row : (machine : StateMachine) (number phase : ℕ) → length machine.states ≤ number → next_state machine (Some number) phase ≡ None
past_row machine number phase h =
    ap (λ (state : NumberedState). get_or state.next phase None)
    (get_or_past machine.states number (record { accepting = false; next = [] }) h)

pub in_machine : (table : Table) (state : Option ℕ) → IsBelow (length table.accepting) state → IsStateIn (machine_of table) state
in_machine table None h = tt
in_machine table (Some number) h = omega (arith, machine_count table, h)

pub below_table : (table : Table) (state : Option ℕ) → IsStateIn (machine_of table) state → IsBelow (length table.accepting) state
below_table table None h = tt
below_table table (Some number) h = omega (arith, machine_count table, h)

pub is_machine : (table : Table) → IsTable table → IsStateMachine (machine_of table)
is_machine table h = record {
  some = omega (arith, machine_count table, h.some);
  few = omega (arith, machine_count table, h.few);
  each_phase = λ number k.
      machine_row table number (omega (arith, machine_count table, k)) ∙ sym (machine_phases table);
  within = within;
}
  where
    within : (number phase : ℕ) → IsStateIn (machine_of table) (next_state (machine_of table) (Some number) phase)
    within number phase = elim (cases_lt number (length table.accepting)) [
      | inl inside ↦ elim (cases_lt phase table.phases) [
        | inl below ↦
            subst (λ s. IsStateIn (machine_of table) s) (sym (machine_next table number phase inside below))
            (in_machine table (step_at table number phase) (h.within (number * table.phases + phase)))
        | inr past ↦
            subst (λ s. IsStateIn (machine_of table) s)
            (sym (get_or_past (numbered (machine_of table) number).next phase None (omega (arith, machine_row table number inside, past)))) tt
      ]
      | inr out ↦
          subst (λ s. IsStateIn (machine_of table) s)
          (sym (past_row (machine_of table) number phase (omega (arith, machine_count table, out)))) tt
    ]

-- ---- what a method reads in the table is what the machine has that its caller sees
module _ (table : Table) (machine : StateMachine) (is : machine_of table ≡ machine) where
  pub seen_phases : table.phases ≡ machine.phases
  seen_phases = sym (machine_phases table) ∙ ap (λ (m : StateMachine). m.phases) is

  pub seen_count : length table.accepting ≡ length machine.states
  seen_count = sym (machine_count table) ∙ ap (λ (m : StateMachine). length m.states) is

  pub seen_machine : IsTable table → IsStateMachine machine
  seen_machine h = subst (λ m. IsStateMachine m) is (is_machine table h)

  pub seen_in : (state : Option ℕ) → IsBelow (length table.accepting) state → IsStateIn machine state
  seen_in state h = subst (λ m. IsStateIn m state) is (in_machine table state h)

  module _ (state : Option ℕ) (number : ℕ) (some : state ≡ Some number) where
    pub seen_below : IsStateIn machine state → number < length table.accepting
    seen_below h = let below : IsStateIn machine (Some number) = subst (λ s. IsStateIn machine s) some h in omega (arith, below, seen_count)

    pub seen_number : number < length table.accepting → IsStateIn machine state
    seen_number h = subst (λ s. IsStateIn machine s) (sym some) (seen_in (Some number) h)

    pub seen_accepting : number < length table.accepting → get_or table.accepting number false ≡ is_accepting machine state
    seen_accepting h =
        sym (machine_accepting table number h) ∙ (ap (λ m. is_accepting m (Some number)) is ∙ ap (is_accepting machine) (sym some))

    pub seen_next : (phase : ℕ) → number < length table.accepting → phase < machine.phases → step_at table number phase ≡ next_state machine state phase
    seen_next phase h k =
        sym (machine_next table number phase h (omega (arith, k, seen_phases)))
        ∙ (ap (λ m. next_state m (Some number) phase) is ∙ ap (λ s. next_state machine s phase) (sym some))
