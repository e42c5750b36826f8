-- Whether a grammar has more states than some number is decided: lists of phases with different states are gathered, one phase
-- longer each, until there are enough of them or none leads to a state that is not there. Then these are all the states.
use Rattle.std.proofs.Common.{◌≡◌, ◌≢◌, ℕ, zero, suc, ◌+◌, ◌<◌, ◌≤◌, ◌⊎◌, inl, inr, Bool, true, false, List, [], ◌∷◌, ◌++◌, length, map, AllPairs, Some, None, Option, refl, sym, ◌∙◌, ap, subst, arith, append_assoc}
use Rattle.std.specs.List.{All, AllByRecursion, Contains}
use Rattle.std.proofs.lemmas.List.{append-nil, length-map}
use Rattle.std.proofs.lemmas.Map.Keys.{IsStrictlyIncreasing-from_sorted}
use Rattle.list_laws.proofs.Sorted.{Contains-first, Contains-later, Contains-cons_cases, not_Contains-nil, All-from_Contains}
use Rattle.list_laws.proofs.FirstOnes.{Contains-map, Contains-map_cases}
use Rattle.list_laws.proofs.Elements.{Pairwise, pairs_from_recursion}
use Rattle.lexicon_definitions.specs.declared.limits.TheConstants.{MOST_GRAMMAR_STATES}
use Rattle.lexicon_definitions.specs.Grammars.{Grammar, Accepts, Mark, State, Opening, After, IsStateAfter, IsLiveState}
use Rattle.lexicon_definitions.specs.GrammarMarks.{IsPositionIn}
use Rattle.lexicon_definitions.specs.GrammarTexts.{grammar_of}
use Rattle.lexicon_definitions.specs.GrammarFaults.{IsStateOf, HasMoreStates, Fault, Long, Syntax, UnknownPhase, Places, States, first_fault_of, fault_before_states, IsFirstFault, IsGrammarTextWithinLimits}
use Rattle.lexicon_definitions.proofs.GrammarPositions as positions
use Rattle.lexicon_definitions.proofs.GrammarStates.{same_positions_same_state}
use Rattle.lexicon_definitions.proofs.GrammarSteps.{position_step, live_position, same_positions}
use Rattle.demo_definitions.proofs.DifferentElements.{In, AreDifferent, contains_from_in, in_from_contains, different_are_few, different_from_pairs}
use Rattle.existence_laws.proofs.Decisions.{Decided, told_by, refuted, both, is_below, is_same_word, is_element, holds_of_some}
use Rattle.existence_laws.proofs.GrammarDecisions.{marks_of, linked, positions_after}

-- ---- different elements differ in pairs

apart_from : {X : Type 0} (x : X) (xs : List X) → (In x xs → ⊥) → AllByRecursion (λ y. x ≢ y) xs
apart_from x [] h = tt
apart_from x (y ∷ ys) h = ((λ e. h (inl (sym e))), apart_from x ys (λ m. h (inr m)))

pairwise_apart : {X : Type 0} (xs : List X) → AreDifferent xs → Pairwise (λ x y. x ≢ y) xs
pairwise_apart [] h = tt
pairwise_apart (x ∷ xs) h = (apart_from x xs h.0, pairwise_apart xs h.1)

pairs_apart : {X : Type 0} (xs : List X) → AreDifferent xs → AllPairs (λ x y. x ≢ y) xs
pairs_apart xs h = pairs_from_recursion (λ x y. x ≢ y) xs (pairwise_apart xs h)

-- ---- states

after_parts : (left right : List ℕ) → After left ≡ After right → left ≡ right
after_parts left right e = cc

is_same_state : (left right : State) → Decided (left ≡ right)
is_same_state Opening Opening = inl refl
is_same_state Opening (After positions) = inr (λ e. cc)
is_same_state (After positions) Opening = inr (λ e. cc)
is_same_state (After left) (After right) = told_by (λ e. ap After e) (after_parts left right) (is_same_word left right)

is_live : (state : State) → Decided (IsLiveState state)
is_live state = refuted (is_same_state state (After []))

module _ (g : Grammar) where
  -- each list of phases has a state
  state_after : (phases : List ℕ) → (state : State) × IsStateAfter g phases state
  state_after [] = (Opening, refl)
  state_after (phase ∷ phases) =
      let p = positions_after g (phase ∷ phases) in
      (After p.0, (IsStrictlyIncreasing-from_sorted p.0 p.1.rising, λ position. (p.1.only position, p.1.complete position)))

  abbrev state_at : List ℕ → State
  state_at phases = (state_after phases).0

  -- and no two
  one_state : (phases : List ℕ) (left right : State) → IsStateAfter g phases left → IsStateAfter g phases right → left ≡ right
  one_state phases left right h k =
      same_positions_same_state g phases phases left right ((same_positions g phases phases).1 (λ position. ((λ x. x), (λ x. x)))) h k

  -- a live state has a position
  live_has_position : (phases : List ℕ) (state : State) → IsStateAfter g phases state → IsLiveState state → (position : ℕ) × IsPositionIn g phases position
  live_has_position [] state h live = (0, refl)
  live_has_position (phase ∷ phases) Opening h live = absurd h
  live_has_position (phase ∷ phases) (After []) h live = absurd (live refl)
  live_has_position (phase ∷ phases) (After (position ∷ positions)) h live = (position, (h.1 position).0 (Contains-first position positions))

  live_by_position : (phases : List ℕ) (state : State) (position : ℕ) → IsStateAfter g phases state → IsPositionIn g phases position → IsLiveState state
  live_by_position [] Opening position h k = λ e. cc
  live_by_position [] (After positions) position h k = λ e. cc
  live_by_position (phase ∷ phases) Opening position h k = absurd h
  live_by_position (phase ∷ phases) (After positions) position h k =
      λ e. not_Contains-nil position (subst (λ (ps : List ℕ). Contains ps position) (after_parts positions [] e) ((h.1 position).1 k))

  -- the front of a list with a live state has a live state
  live_front : (phases rest : List ℕ) → IsLiveState (state_at (phases ++ rest)) → IsLiveState (state_at phases)
  live_front phases rest live =
      let at = live_has_position (phases ++ rest) (state_at (phases ++ rest)) (state_after (phases ++ rest)).1 live in
      let goes_on = (live_position g (phases ++ rest)).1 at in
      let here = (live_position g phases).0 (rest ++ goes_on.0, subst (Accepts g) (append_assoc phases rest goes_on.0) goes_on.1) in
      live_by_position phases (state_at phases) here.0 (state_after phases).1 here.1

  -- lists with one state have one state with a phase more
  same_next : (left right : List ℕ) (phase : ℕ) → state_at left ≡ state_at right → state_at (left ++ phase ∷ []) ≡ state_at (right ++ phase ∷ [])
  same_next left right phase e =
      let same = positions.same_state_same_positions g left right (state_at left) (state_after left).1
      (subst (IsStateAfter g right) (sym e) (state_after right).1) in
      let each = (same_positions g left right).0 same in
      let to : (position : ℕ) → IsPositionIn g (left ++ phase ∷ []) position → IsPositionIn g (right ++ phase ∷ []) position =
      λ position h. let f = (position_step g left phase position).0 h in (position_step g right phase position).1 (f.0, (each f.0).0 f.1, f.2) in
      let back : (position : ℕ) → IsPositionIn g (right ++ phase ∷ []) position → IsPositionIn g (left ++ phase ∷ []) position =
      λ position h. let f = (position_step g right phase position).0 h in (position_step g left phase position).1 (f.0, (each f.0).1 f.1, f.2) in
      same_positions_same_state g (left ++ phase ∷ []) (right ++ phase ∷ []) (state_at (left ++ phase ∷ [])) (state_at (right ++ phase ∷ []))
      ((same_positions g (left ++ phase ∷ []) (right ++ phase ∷ [])).1 (λ position. (to position, back position)))
      (state_after (left ++ phase ∷ [])).1 (state_after (right ++ phase ∷ [])).1

  -- ---- lists with different states

  abbrev phases_in : List ℕ
  phases_in = map (λ (mark : Mark). mark.phase) (marks_of g 1)

  abbrev states_of : List (List ℕ) → List State
  states_of lists = map state_at lists

  -- lists with different live states, the empty one among them
  record AreDistinct (lists : List (List ℕ)) : Type 0 where
    different : AreDifferent (states_of lists)
    live : (phases : List ℕ) → Contains lists phases → IsLiveState (state_at phases)
    opening : Contains lists []

  -- with this phase more the list has a live state that none of the lists has
  abbrev IsNew : List (List ℕ) → List ℕ → ℕ → Type 0
  IsNew lists phases phase =
      IsLiveState (state_at (phases ++ phase ∷ [])) × (Contains (states_of lists) (state_at (phases ++ phase ∷ [])) → ⊥)

  abbrev HasNext : List (List ℕ) → List ℕ → Type 0
  HasNext lists phases = (phase : ℕ) × Contains phases_in phase × IsNew lists phases phase

  abbrev HaveNext : List (List ℕ) → Type 0
  HaveNext lists = (phases : List ℕ) × Contains lists phases × HasNext lists phases

  have_next : (lists : List (List ℕ)) → Decided (HaveNext lists)
  have_next lists =
      holds_of_some (HasNext lists)
      (λ phases. holds_of_some (IsNew lists phases)
      (λ phase. both (is_live (state_at (phases ++ phase ∷ [])))
      (refuted (is_element is_same_state (states_of lists) (state_at (phases ++ phase ∷ []))))) phases_in) lists

  -- a phase after which there is a live state is one of the grammar's
  phase_within : (phases : List ℕ) (phase : ℕ) → IsLiveState (state_at (phases ++ phase ∷ [])) → Contains phases_in phase
  phase_within phases phase live =
      let at = live_has_position (phases ++ phase ∷ []) (state_at (phases ++ phase ∷ [])) (state_after (phases ++ phase ∷ [])).1 live in
      let from = (position_step g phases phase at.0).0 at.1 in
      let is = linked g from.0 phase at.0 from.2 in
      subst (Contains phases_in) is.phase_is (Contains-map (λ (mark : Mark). mark.phase) (marks_of g 1) is.mark is.within)

  -- where none is new, the states of longer lists are there
  step_stays : (lists : List (List ℕ)) → (HaveNext lists → ⊥) → (phases : List ℕ) (phase : ℕ) → Contains (states_of lists) (state_at phases)
      → IsLiveState (state_at (phases ++ phase ∷ [])) → Contains (states_of lists) (state_at (phases ++ phase ∷ []))
  step_stays lists none phases phase m live =
      let at = Contains-map_cases state_at lists (state_at phases) m in
      let same = same_next at.0 phases phase at.2 in
      elim (is_element is_same_state (states_of lists) (state_at (phases ++ phase ∷ []))) [
        | inl there ↦ there
        | inr new ↦ absurd (none (
          at.0,
          at.1,
          (
            phase,
            phase_within phases phase live,
            (subst IsLiveState (sym same) live, subst (λ (s : State). Contains (states_of lists) s → ⊥) (sym same) new),
          ),
        ))
      ]

  rest_stays : (lists : List (List ℕ)) → (HaveNext lists → ⊥) → (front rest : List ℕ) → Contains (states_of lists) (state_at front)
      → IsLiveState (state_at (front ++ rest)) → Contains (states_of lists) (state_at (front ++ rest))
  rest_stays lists none front [] m live = subst (λ (ks : List ℕ). Contains (states_of lists) (state_at ks)) (sym (append-nil front)) m
  rest_stays lists none front (phase ∷ rest) m live =
      let is = append_assoc front (phase ∷ []) rest in
      let live_there = subst (λ (ks : List ℕ). IsLiveState (state_at ks)) (sym is) live in
      let next = step_stays lists none front phase m (live_front (front ++ phase ∷ []) rest live_there) in
      subst (λ (ks : List ℕ). Contains (states_of lists) (state_at ks)) is (rest_stays lists none (front ++ phase ∷ []) rest next live_there)

  -- and so are all states
  all_there : (lists : List (List ℕ)) → AreDistinct lists → (HaveNext lists → ⊥) → (state : State) → IsStateOf g state → Contains (states_of lists) state
  all_there lists distinct none state h =
      let same = one_state h.0 (state_at h.0) state (state_after h.0).1 h.1 in
      subst (Contains (states_of lists)) same
      (rest_stays lists none [] h.0 (Contains-map state_at lists [] distinct.opening) (subst IsLiveState (sym same) h.2))

  -- ---- gathering

  with_next : (lists : List (List ℕ)) (phases : List ℕ) (phase : ℕ) → AreDistinct lists → IsNew lists phases phase → AreDistinct ((phases ++ phase ∷ []) ∷ lists)
  with_next lists phases phase distinct new =
      record {
        different = ((λ m. new.1 (contains_from_in (state_at (phases ++ phase ∷ [])) (states_of lists) m)), distinct.different);
        live = λ ks m. elim (Contains-cons_cases (phases ++ phase ∷ []) lists ks m) [
          | inl e ↦ subst (λ (x : List ℕ). IsLiveState (state_at x)) e new.0
          | inr n ↦ distinct.live ks n
        ];
        opening = Contains-later (phases ++ phase ∷ []) lists [] distinct.opening;
      }

  -- all states, or so many more than there were
  data Gathered (more : ℕ) (lists : List (List ℕ)) : Type 0 where
    Closed : (all : List (List ℕ)) → AreDistinct all → (HaveNext all → ⊥) → Gathered more lists
    Many : (many : List (List ℕ)) → AreDistinct many → more + length lists ≤ length many → Gathered more lists

  one_longer : (more : ℕ) (phases : List ℕ) (lists : List (List ℕ)) → Gathered more (phases ∷ lists) → Gathered (suc more) lists
  one_longer more phases lists (Closed all distinct none) = Closed all distinct none
  one_longer more phases lists (Many many distinct long) = Many many distinct (omega (arith, long))

  gathered : (more : ℕ) (lists : List (List ℕ)) → AreDistinct lists → Gathered more lists
  gathered zero lists distinct = Many lists distinct (omega arith)
  gathered (suc more) lists distinct = elim (have_next lists) [
    | inl next ↦ one_longer more (next.0 ++ next.2.0 ∷ []) lists
        (gathered more ((next.0 ++ next.2.0 ∷ []) ∷ lists) (with_next lists next.0 next.2.0 distinct next.2.2))
    | inr none ↦ Closed lists distinct none
  ]

  opening_alone : AreDistinct ([] ∷ [])
  opening_alone =
      record {
        different = ((λ m. m), tt);
        live = λ ks m. elim (Contains-cons_cases [] [] ks m) [
          | inl e ↦ subst (λ (x : List ℕ). IsLiveState (state_at x)) e (live_by_position [] (state_at []) 0 (state_after []).1 refl)
          | inr n ↦ absurd (not_Contains-nil ks n)
        ];
        opening = Contains-first [] [];
      }

  -- ---- the number of states

  many_states : (lists : List (List ℕ)) (count : ℕ) → AreDistinct lists → count < length lists → HasMoreStates g count
  many_states lists count distinct long = (
    states_of lists,
    omega (arith, length-map lists state_at, long),
    pairs_apart (states_of lists) distinct.different,
    All-from_Contains (IsStateOf g) (states_of lists) (λ state m.
        let at = Contains-map_cases state_at lists state m in
        subst (IsStateOf g) at.2 (at.0, (state_after at.0).1, distinct.live at.0 at.1)),
  )

  few_states : (lists : List (List ℕ)) (count : ℕ) → AreDistinct lists → (HaveNext lists → ⊥) → length lists ≤ count → HasMoreStates g count → ⊥
  few_states lists count distinct none short h =
      let few = different_are_few h.0 (states_of lists) (different_from_pairs h.0 h.2)
      (λ state m. in_from_contains state (states_of lists) (all_there lists distinct none state (All-Contains h.0 h.3 state (contains_from_in state h.0 m)))) in
      let long = h.1 in
      omega (arith, few, length-map lists state_at, short, long)
    where
      All-Contains : (states : List State) → All (IsStateOf g) states → (state : State) → Contains states state → IsStateOf g state
      All-Contains states all state m = subst (IsStateOf g) m.2 (all m.0 state m.1)

  by_gathered : (count : ℕ) → Gathered count ([] ∷ []) → Decided (HasMoreStates g count)
  by_gathered count (Closed lists distinct none) = elim (is_below count (length lists)) [
    | inl long ↦ inl (many_states lists count distinct long)
    | inr short ↦ inr (few_states lists count distinct none (omega (arith, short)))
  ]
  by_gathered count (Many lists distinct long) = inl (many_states lists count distinct (omega (arith, long)))

  pub has_more_states : (count : ℕ) → Decided (HasMoreStates g count)
  has_more_states count = by_gathered count (gathered count ([] ∷ []) opening_alone)

-- ---- the first fault of a grammar's text

no_earlier_fault : (names : List (List ℕ)) (text : List ℕ) → fault_before_states names text ≡ None
    → (HasMoreStates (grammar_of names text) MOST_GRAMMAR_STATES → ⊥) → IsGrammarTextWithinLimits names text
no_earlier_fault names text e few Long h = let f = sym e ∙ h in cc
no_earlier_fault names text e few (Syntax at) h = let f = sym e ∙ h in cc
no_earlier_fault names text e few (UnknownPhase at) h = let f = sym e ∙ h in cc
no_earlier_fault names text e few Places h = let f = sym e ∙ h in cc
no_earlier_fault names text e few States h = few h.1

-- too many states are no earlier fault
not_states : (long : Bool) (syntax unknown : Option ℕ) (many : Bool) → first_fault_of long syntax unknown many ≡ Some States → ⊥
not_states true syntax unknown many e = cc
not_states false (Some at) unknown many e = cc
not_states false None (Some at) many e = cc
not_states false None None true e = cc
not_states false None None false e = cc

-- a text of a grammar is one within the limits, or it has a first fault
pub first_fault_there : (names : List (List ℕ)) (text : List ℕ)
    → IsGrammarTextWithinLimits names text ⊎ ((fault : Fault) × IsFirstFault names text fault)
first_fault_there names text = by_earlier (fault_before_states names text) refl
  where
    by_states : fault_before_states names text ≡ None → Decided (HasMoreStates (grammar_of names text) MOST_GRAMMAR_STATES)
        → IsGrammarTextWithinLimits names text ⊎ ((fault : Fault) × IsFirstFault names text fault)
    by_states e (inl more) = inr (States, (e, more))
    by_states e (inr few) = inl (no_earlier_fault names text e few)

    by_earlier : (earlier : Option Fault) → fault_before_states names text ≡ earlier
        → IsGrammarTextWithinLimits names text ⊎ ((fault : Fault) × IsFirstFault names text fault)
    by_earlier None e = by_states e (has_more_states (grammar_of names text) MOST_GRAMMAR_STATES)
    by_earlier (Some Long) e = inr (Long, e)
    by_earlier (Some (Syntax at)) e = inr (Syntax at, e)
    by_earlier (Some (UnknownPhase at)) e = inr (UnknownPhase at, e)
    by_earlier (Some Places) e = inr (Places, e)
    by_earlier (Some States) e = absurd (not_states _ _ _ _ e)
