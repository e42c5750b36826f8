-- A list leads to the number of the grammar's state after it: after a list there is one state, that at the number, and numbers
-- and states tell the same of two lists, whether the same positions are after them.
use Rattle.std.proofs.Common.{◌≡◌, ℕ, ◌<◌, ◌≤◌, ◌↔◌, inl, inr, IsTrue, IsSome, Option, Some, None, List, [], ◌∷◌, ◌++◌, length, refl, sym, ap, ◌∙◌, arith, subst}
use Rattle.std.proofs.lemmas.Bool.{cases_lt, false≢true}
use Rattle.std.proofs.lemmas.List.{get_or_past}
use Rattle.lexicon_definitions.specs.Grammars.{Grammar, State, After, IsStateAfter, IsLiveState}
use Rattle.lexicon_definitions.specs.GrammarFaults.{IsStateOf}
use Rattle.lexicon_definitions.proofs.GrammarPositions.{same_state_same_positions}
use Rattle.lexicon_definitions.proofs.GrammarSteps.{same_positions}
use Rattle.lexicon_definitions.proofs.GrammarStates.{same_positions_same_state}
use Rattle.phase_automaton.specs.Automata.{StateMachine, numbered, start_state, next_state, state_from, state_after, state_at, is_accepting, IsStateIn, IsStateMachine, Recognizes}
use Rattle.phase_automaton.proofs.MachineTables.{past_row}

-- ---- phase by phase
pub state_from-append : (machine : StateMachine) (state : Option ℕ) (front rest : List ℕ)
    → state_from machine state (front ++ rest) ≡ state_from machine (state_from machine state front) rest
state_from-append machine state [] rest = refl
state_from-append machine state (phase ∷ front) rest = state_from-append machine (next_state machine state phase) front rest

pub state_after-push : (machine : StateMachine) (phases : List ℕ) (phase : ℕ)
    → state_after machine (phases ++ phase ∷ []) ≡ next_state machine (state_after machine phases) phase
state_after-push machine phases phase = state_from-append machine start_state phases (phase ∷ [])

pub stays_dead : (machine : StateMachine) (phases : List ℕ) → state_from machine None phases ≡ None
stays_dead machine [] = refl
stays_dead machine (phase ∷ phases) = stays_dead machine phases

pub no_phase : (machine : StateMachine) (state : Option ℕ) (phase : ℕ) → IsStateMachine machine → machine.phases ≤ phase
    → next_state machine state phase ≡ None
no_phase machine None phase is past = refl
no_phase machine (Some number) phase is past = elim (cases_lt number (length machine.states)) [
  | inl inside ↦ get_or_past (numbered machine number).next phase None (omega (arith, is.each_phase number inside, past))
  | inr out ↦ past_row machine number phase out
]

-- ---- numbers and states
-- after a list there is one state
pub one_state : (g : Grammar) (ks : List ℕ) (s t : State) → IsStateAfter g ks s → IsStateAfter g ks t → s ≡ t
one_state g ks s t h k = same_positions_same_state g ks ks s t ((same_positions g ks ks).1 (λ position. ((λ x. x), (λ x. x)))) h k

module _ (machine : StateMachine) (g : Grammar) (r : Recognizes machine g) where
  pub after_is : (ks : List ℕ) (s : State) → IsStateAfter g ks s ↔ (s ≡ state_at r.states (state_after machine ks))
  after_is ks s = (
    (λ h. one_state g ks s (state_at r.states (state_after machine ks)) h (r.after ks)),
    (λ e. subst (λ t. IsStateAfter g ks t) (sym e) (r.after ks)),
  )

  pub same_numbers : (p q : List ℕ) (s t : State) → IsStateAfter g p s → IsStateAfter g q t
      → (state_after machine p ≡ state_after machine q) ↔ (s ≡ t)
  same_numbers p q s t h k = (
    (λ e. same_positions_same_state g p q s t ((r.same p q).0 e) h k),
    (λ e. (r.same p q).1 (same_state_same_positions g p q t (subst (λ u. IsStateAfter g p u) e h) k)),
  )

  live_at : (state : Option ℕ) → IsStateIn machine state → IsSome state ↔ IsLiveState (state_at r.states state)
  live_at None within = ((λ e. absurd (false≢true e)), (λ h. absurd (h refl)))
  live_at (Some number) within = ((λ e. r.each_live number (After []) (omega (arith, within, r.count))), (λ h. refl))

  pub live_state : (ks : List ℕ) (s : State) → IsStateAfter g ks s → IsSome (state_after machine ks) ↔ IsLiveState s
  live_state ks s h =
      subst (λ t. IsSome (state_after machine ks) ↔ IsLiveState t) (sym ((after_is ks s).0 h))
      (live_at (state_after machine ks) (r.within ks))

  number_of : (state : Option ℕ) (s : State) → IsStateIn machine state → s ≡ state_at r.states state → IsLiveState s
      → (number : ℕ) × (number < length machine.states) × (state_at r.states (Some number) ≡ s)
  number_of None s within e live = absurd (live e)
  number_of (Some number) s within e live = (number, within, sym e)

  pub each_state : (s : State)
      → IsStateOf g s ↔ ((number : ℕ) × (number < length machine.states) × (state_at r.states (Some number) ≡ s))
  each_state s = (
    (λ h. number_of (state_after machine h.0) s (r.within h.0) ((after_is h.0 s).0 h.1) h.2),
    (λ h.
        let list = r.reached h.0 h.1 in
        let e : s ≡ state_at r.states (state_after machine list.0) = sym h.2 ∙ ap (state_at r.states) (sym list.1) in (
          list.0,
          (after_is list.0 s).1 e,
          subst (λ t. IsLiveState t) h.2 (r.each_live h.0 (After []) (omega (arith, h.1, r.count))),
        )),
  )

  pub leads_on : (number : ℕ) → number < length machine.states
      → (rest : List ℕ) × IsTrue (is_accepting machine (state_from machine (Some number) rest))
  leads_on number h =
      let list = r.reached number h in
      let word = (r.live list.0).0 (subst (λ s. IsSome s) (sym list.1) refl) in (
        word.0,
        subst (λ s. IsTrue (is_accepting machine s))
            (state_from-append machine start_state list.0 word.0 ∙ ap (λ s. state_from machine s word.0) list.1)
            ((r.accepts (list.0 ++ word.0)).1 word.1),
      )
