-- A machine has a number for each state of the grammar, and different states have different numbers; so there are no more
-- states than numbers.
use Rattle.std.proofs.Common.{◌≡◌, ◌≢◌, ℕ, suc, ◌<◌, ◌≤◌, inl, inr, Bool, true, false, eqb, Option, Some, None, unwrap_or, List, [], ◌∷◌, ◌++◌, length, refl, sym, ap, ◌∙◌, arith, subst}
use Rattle.std.specs.Prelude.{◌||◌, IsSome, All, AllPairs}
use Rattle.std.specs.List.{AllByRecursion, IsDistinct, list_any}
use Rattle.std.proofs.lemmas.Bool.Decides.{eqb_tells}
use Rattle.std.proofs.lemmas.List.Elements.{recursion_from_All}
use Rattle.std.proofs.lemmas.Map.Keys.{IsDistinct-cons}
use Rattle.std.proofs.lemmas.Map.Steps.{length-le_from_distinct_below}
use Rattle.lexicon_definitions.specs.Grammars.{Grammar, Accepts, State, Opening, After, IsStateAfter, IsLiveState}
use Rattle.lexicon_definitions.specs.GrammarFaults.{IsStateOf, HasMoreStates}
use Rattle.lexicon_definitions.proofs.GrammarSteps.{live_position}
use Rattle.lexicon_definitions.proofs.GrammarStates.{in_head, same_positions_same_state}
use Rattle.phase_automaton.specs.Automata.{StateMachine, state_after, IsStateIn, Recognizes}

module _ (machine : StateMachine) (g : Grammar) (r : Recognizes machine g) where
  -- the list that leads to a live state goes on to a word
  pub goes_on : (ks : List ℕ) (s : State) → IsStateAfter g ks s → IsLiveState s → (rest : List ℕ) × Accepts g (ks ++ rest)
  goes_on [] s h live = (live_position g []).1 (0, refl)
  goes_on (k ∷ ks) Opening h live = absurd h
  goes_on (k ∷ ks) (After []) h live = absurd (live refl)
  goes_on (k ∷ ks) (After (x ∷ positions)) h live = (live_position g (k ∷ ks)).1 (x, (h.1 x).0 (in_head x positions))

  number : (s : State) → IsStateOf g s → ℕ
  number s h = unwrap_or (state_after machine h.0) 0

  numbered : (o : Option ℕ) → IsSome o → o ≡ Some (unwrap_or o 0)
  numbered None h = cc
  numbered (Some n) h = refl

  has_number : (s : State) (h : IsStateOf g s) → state_after machine h.0 ≡ Some (number s h)
  unfolding number
  has_number s h = numbered (state_after machine h.0) ((r.live h.0).1 (goes_on h.0 s h.1 h.2))

  number_below : (s : State) (h : IsStateOf g s) → number s h < length machine.states
  number_below s h = subst (λ o. IsStateIn machine o) (has_number s h) (r.within h.0)

  same_number : (s t : State) (h : IsStateOf g s) (k : IsStateOf g t) → number s h ≡ number t k → s ≡ t
  same_number s t h k e =
      same_positions_same_state g h.0 k.0 s t ((r.same h.0 k.0).0 (has_number s h ∙ (ap Some e ∙ sym (has_number t k)))) h.1 k.1

  numbers : (states : List State) → AllByRecursion (IsStateOf g) states → List ℕ
  numbers [] h = []
  numbers (s ∷ states) h = number s h.0 ∷ numbers states h.1

  length_numbers : (states : List State) (h : AllByRecursion (IsStateOf g) states) → length (numbers states h) ≡ length states
  unfolding numbers
  length_numbers [] h = refl
  length_numbers (s ∷ states) h = ap suc (length_numbers states h.1)

  others_differ : (s : State) (h : IsStateOf g s) (states : List State) (k : AllByRecursion (IsStateOf g) states)
      → AllByRecursion (λ t. s ≢ t) states → AllByRecursion (λ n. eqb (number s h) n ≡ false) (numbers states k)
  unfolding numbers
  others_differ s h [] k d = tt
  others_differ s h (t ∷ states) k d = (
    elim (eqb_tells (number s h) (number t k.0)) [
      | inl y ↦ absurd (d.0 (same_number s t h k.0 y.1))
      | inr y ↦ y.0
    ],
    others_differ s h states k.1 d.1,
  )

  tail_pairs : (s : State) (states : List State) → AllPairs (λ left right. left ≢ right) (s ∷ states) → AllPairs (λ left right. left ≢ right) states
  tail_pairs s states h i j d a b = h (suc i) (suc j) d (omega (arith, a)) (omega (arith, b))

  head_pairs : (s : State) (states : List State) → AllPairs (λ left right. left ≢ right) (s ∷ states) → All (λ t. s ≢ t) states
  head_pairs s states h k d a = h 0 (suc k) d (omega arith) (omega (arith, a))

  distinct_numbers : (states : List State) (h : AllByRecursion (IsStateOf g) states) → AllPairs (λ left right. left ≢ right) states
      → IsDistinct eqb (numbers states h)
  unfolding numbers IsDistinct
  distinct_numbers [] h d = tt
  distinct_numbers (s ∷ states) h d =
      IsDistinct-cons eqb (number s h.0) (numbers states h.1)
      (others_differ s h.0 states h.1 (recursion_from_All (λ t. s ≢ t) states (head_pairs s states d)))
      (distinct_numbers states h.1 (tail_pairs s states d))

  numbers_below : (states : List State) (h : AllByRecursion (IsStateOf g) states) (q : ℕ) → list_any (eqb q) (numbers states h) ≡ true
      → q < length machine.states
  unfolding numbers
  numbers_below [] h q e = cc
  numbers_below (s ∷ states) h q e = elim (eqb_tells q (number s h.0)) [
    | inl y ↦ let below = number_below s h.0 in omega (arith, y.1, below)
    | inr y ↦ numbers_below states h.1 q (rest (eqb q (number s h.0)) y.0 e)
  ]
    where
      rest : (b : Bool) → b ≡ false → (b || list_any (eqb q) (numbers states h.1)) ≡ true → list_any (eqb q) (numbers states h.1) ≡ true
      rest true f k = cc
      rest false f k = k

  pub no_more_states : (n : ℕ) → length machine.states ≤ n → HasMoreStates g n → ⊥
  no_more_states n few h =
      let all = recursion_from_All (IsStateOf g) h.0 h.3 in
      let size = length_numbers h.0 all in
      let fits = length-le_from_distinct_below (numbers h.0 all) (length machine.states) (distinct_numbers h.0 all h.2) (numbers_below h.0 all) in
      omega (arith, size, fits, few, h.1)
