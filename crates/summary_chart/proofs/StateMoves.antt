-- A set's first state and the others lead where the set leads, and have what the set has, one state after another; and where a set leads is
-- told by which states lead by a phase and where these lead.
use Rattle.std.proofs.Common.{◌≡◌, ◌⊎◌, inl, inr, ℕ, ◌+◌, ◌<◌, ◌↔◌, Some, List, length, get_or, slice_set, refl, sym, subst, arith}
use Rattle.std.proofs.lemmas.List.{get_or-set_other, get_or-set_same}
use Rattle.phase_automaton.specs.Automata.{StateMachine, IsStateIn, IsStateMachine, next_state}
use Rattle.summary_chart.specs.StateSets.{HasState, IsSplitInto, IsStateOf, IsLedTo, LeadsInto, LeadsOn, IsReached}
use Rattle.summary_chart.specs.declared.state_set.StateSet.{StateSet}
use Rattle.summary_chart.proofs.VisitedKeys.{below_or_at}

-- where a set leads, one state after another: what was led to so far, and where the rest leads
pub led_more : (machine : StateMachine) (phase : ℕ) (set so_far later rest others : StateSet) (first number : ℕ)
    → (IsLedTo machine set phase number ↔ (HasState so_far number ⊎ IsLedTo machine rest phase number))
    → IsSplitInto rest first others
    → (HasState later number ↔ (HasState so_far number ⊎ ((first < length machine.states) × (next_state machine (Some first) phase ≡ Some number))))
    → IsLedTo machine set phase number ↔ (HasState later number ⊎ IsLedTo machine others phase number)
led_more machine phase set so_far later rest others first number before split added = (
  λ led. elim (before.0 led) [
    | inl here ↦ inl (added.1 (inl here))
    | inr (from, (within, has), next) ↦ elim ((split.parts from).0 has) [
      | inl other ↦ inr (from, (within, other), next)
      | inr same ↦ inl (added.1 (inr (subst (λ f. f < length machine.states) same within, subst (λ f. next_state machine (Some f) phase ≡ Some number) same next)))
    ]
  ],
  λ there. before.1 (elim there [
    | inl here ↦ elim (added.0 here) [
      | inl old ↦ inl old
      | inr (within, next) ↦ inr (first, (within, (split.parts first).1 (inr refl)), next)
    ]
    | inr (from, (within, other), next) ↦ inr (from, (within, (split.parts from).1 (inl other)), next)
  ]),
)

-- which states of a set have a property, one after another: those that were found so far, and those of the rest
pub kept_more : (machine : StateMachine) (IsKept : ℕ → Type 0) (set so_far later rest others : StateSet) (first number : ℕ)
    → ((IsStateOf machine set number × IsKept number) ↔ (HasState so_far number ⊎ (IsStateOf machine rest number × IsKept number)))
    → IsSplitInto rest first others
    → (HasState later number ↔ (HasState so_far number ⊎ ((number ≡ first) × (number < length machine.states) × IsKept number)))
    → (IsStateOf machine set number × IsKept number) ↔ (HasState later number ⊎ (IsStateOf machine others number × IsKept number))
kept_more machine IsKept set so_far later rest others first number before split added = (
  λ kept. elim (before.0 kept) [
    | inl here ↦ inl (added.1 (inl here))
    | inr ((within, has), is) ↦ elim ((split.parts number).0 has) [
      | inl other ↦ inr ((within, other), is)
      | inr same ↦ inl (added.1 (inr (same, within, is)))
    ]
  ],
  λ there. before.1 (elim there [
    | inl here ↦ elim (added.0 here) [
      | inl old ↦ inl old
      | inr (same, within, is) ↦ inr ((within, (split.parts number).1 (inr same)), is)
    ]
    | inr ((within, other), is) ↦ inr ((within, (split.parts number).1 (inl other)), is)
  ]),
)

-- ---- by what is known of a phase for all sets

-- what holds of the sets of the phases so far holds with one phase more
pub set_with_next : (Holds : ℕ → StateSet → Type 0) (sets : List StateSet) (phase : ℕ) (set none : StateSet) → phase < length sets → Holds phase set
    → ((other : ℕ) → other < phase → Holds other (get_or sets other none))
    → (other : ℕ) → other < phase + 1 → Holds other (get_or (slice_set sets phase set) other none)
set_with_next Holds sets phase set none there holds so_far other low = elim (below_or_at other phase low) [
  | inl below ↦ subst (Holds other) (sym (get_or-set_other sets phase other set none (λ same. absurd (omega (arith, same, below))))) (so_far other below)
  | inr same ↦ subst (λ (k : ℕ). Holds k (get_or (slice_set sets phase set) k none)) (sym same) (subst (Holds phase) (sym (get_or-set_same sets phase set none there)) holds)
]

-- those to which all states lead that lead by the phase are those to which any leads
pub reached_by_leading : (machine : StateMachine) (phase : ℕ) (leading : StateSet) → ((number : ℕ) → HasState leading number ↔ LeadsOn machine phase number)
    → (reached : StateSet) → ((number : ℕ) → HasState reached number ↔ IsLedTo machine leading phase number)
    → (number : ℕ) → HasState reached number ↔ IsReached machine phase number
reached_by_leading machine phase leading leads reached led number = (
  λ has. let (from, (within, is), next) = (led number).0 has in (from, within, next),
  λ (from, within, next). (led number).1 (from, (within, (leads from).1 (within, (number, next))), next),
)

-- the states of the set that are among those that lead by the phase
module _ (machine : StateMachine) (phase : ℕ) (set leading from : StateSet) (leads : (number : ℕ) → HasState leading number ↔ LeadsOn machine phase number) (is_from : (number : ℕ) → HasState from number ↔ (HasState leading number × HasState set number)) where
  in_from : (number to : ℕ) → IsStateOf machine set number → next_state machine (Some number) phase ≡ Some to → HasState from number
  in_from number to (within, has) next = (is_from number).1 ((leads number).1 (within, (to, next)), has)

  -- they lead where the set leads
  pub led_by_them : (number : ℕ) → IsLedTo machine from phase number ↔ IsLedTo machine set phase number
  led_by_them number = (
    λ led. (led.0, (led.1.0, ((is_from led.0).0 led.1.1).1), led.2),
    λ led. (led.0, (led.1.0, in_from led.0 number led.1 led.2), led.2),
  )

  pub into_by_them : (targets : StateSet) (number : ℕ) → LeadsInto machine from phase targets number ↔ LeadsInto machine set phase targets number
  into_by_them targets number = (
    λ into. ((into.0.0, ((is_from number).0 into.0.1).1), into.1),
    λ into. ((into.0.0, in_from number into.1.0 into.0 into.1.1), into.1),
  )

  module _ (reached : StateSet) (reaches : (number : ℕ) → HasState reached number ↔ IsReached machine phase number) where
    -- where all states that lead by the phase lead to one, the set leads to this one, if it leads anywhere
    pub led_to_one : ((one other : ℕ) → HasState reached one → HasState reached other → one ≡ other) → (some : ℕ) → HasState from some
        → (number : ℕ) → HasState reached number ↔ IsLedTo machine set phase number
    led_to_one one some has number = (
      λ there.
          let parts = (is_from some).0 has in
          let on = (leads some).0 parts.0 in
          let same : on.1.0 ≡ number = one on.1.0 number ((reaches on.1.0).1 (some, on.0, on.1.1)) there in
          (some, (on.0, parts.1), subst (λ to. next_state machine (Some some) phase ≡ Some to) same on.1.1),
      λ led. (reaches number).1 (led.0, led.1.0, led.2),
    )

    module _ (targets wanted : StateSet) (is_wanted : (number : ℕ) → HasState wanted number ↔ (HasState reached number × HasState targets number)) where
      -- where all states that are reached are targets, each state that leads by the phase leads to one
      pub into_all : wanted ≡ reached → IsStateMachine machine → (number : ℕ) → HasState from number ↔ LeadsInto machine set phase targets number
      into_all all is number = (
        λ has.
            let parts = (is_from number).0 has in
            let on = (leads number).0 parts.0 in
            let target = (is_wanted on.1.0).0 (subst (λ (s : StateSet). HasState s on.1.0) (sym all) ((reaches on.1.0).1 (number, on.0, on.1.1))) in
            ((on.0, parts.1), (on.1.0, on.1.1, (subst (IsStateIn machine) on.1.1 (is.within number phase), target.1))),
        λ into. in_from number into.1.0 into.0 into.1.1,
      )
