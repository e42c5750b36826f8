-- The sets that are reached are states of the grammar, different ones for different sets; so many sets give so many states.
use Rattle.std.proofs.Common.{◌≡◌, ◌≢◌, ℕ, zero, suc, ◌<◌, ◌↔◌, List, [], ◌∷◌, ◌++◌, length, map, reverse, get_or, refl, sym, ap, ◌∙◌, arith, subst}
use Rattle.std.specs.Prelude.{All, AllPairs}
use Rattle.std.proofs.lemmas.List.{length-map, reverse-append}
use Rattle.lexicon_definitions.specs.declared.limits.TheConstants.{MOST_GRAMMAR_STATES}
use Rattle.lexicon_definitions.specs.Grammars.{Grammar, State, IsStateAfter}
use Rattle.lexicon_definitions.specs.GrammarMarks.{IsPositionIn}
use Rattle.lexicon_definitions.specs.GrammarFaults.{IsStateOf, HasMoreStates}
use Rattle.lexicon_definitions.proofs.GrammarPositions.{same_state_same_positions}
use Rattle.lexicon_definitions.proofs.GrammarSteps.{position_step, same_positions}
use Rattle.phase_automaton.specs.declared.position_set.PositionSet.{PositionSet}
use Rattle.phase_automaton.specs.declared.position.Position.{Position}
use Rattle.phase_automaton.specs.PositionSets.{HasPosition}
use Rattle.phase_automaton.specs.Readers.{IsNet}
use Rattle.phase_automaton.specs.Subsets.{IsReached, IsReachedSet, set_at, AreSets, HasMoreSets}
use Rattle.phase_automaton.proofs.PositionSetBits.{same_sets}
use Rattle.phase_automaton.proofs.SetStates.{set_state, set_state_after, set_state_live}

pub reverse_cons : {A : Type 0} (x : A) (xs : List A) → reverse (x ∷ xs) ≡ reverse xs ++ x ∷ []
reverse_cons x xs = reverse-append (x ∷ []) xs

-- positions that are reached are positions after the list
pub reached_position : (positions : List Position) (ends : PositionSet) (g : Grammar) → IsNet positions ends g → (r : List ℕ) (position : ℕ)
    → IsReached positions r position ↔ IsPositionIn g (reverse r) position
reached_position positions ends g net [] position = ((λ h. h), (λ h. h))
reached_position positions ends g net (k ∷ r) position = (
  (λ h. subst (λ ks. IsPositionIn g ks position) (sym (reverse_cons k r))
      ((position_step g (reverse r) k position).1 (h.0, (reached_position positions ends g net r h.0).0 h.1, (net.step h.0 k position).0 h.2))),
  (λ h.
      let x = (position_step g (reverse r) k position).0 (subst (λ ks. IsPositionIn g ks position) (reverse_cons k r) h) in
      (x.0, (reached_position positions ends g net r x.0).1 x.1, (net.step x.0 k position).1 x.2)),
)

pub same_bits : (a b : PositionSet) → ((position : ℕ) → HasPosition a position ↔ HasPosition b position) → a ≡ b
same_bits a b h = ap (λ n. record { bits = n }) (same_sets a.bits b.bits h)

module _ (positions : List Position) (ends : PositionSet) (g : Grammar) (net : IsNet positions ends g) (room : 0 < length positions) where
  reached_small : (r : List ℕ) (position : ℕ) → IsReached positions r position → position < length positions
  reached_small [] position h = omega (arith, h, room)
  reached_small (k ∷ r) position h = net.within h.0 position h.2.0

  module _ (set : PositionSet) (reached : IsReachedSet positions set) where
    pub set_small : (position : ℕ) → HasPosition set position → position < length positions
    set_small position h = reached_small reached.phases position ((reached.has position).0 h)

    pub set_has : (position : ℕ) → HasPosition set position ↔ IsPositionIn g (reverse reached.phases) position
    set_has position = (
      (λ h. (reached_position positions ends g net reached.phases position).0 ((reached.has position).0 h)),
      (λ h. (reached.has position).1 ((reached_position positions ends g net reached.phases position).1 h)),
    )

    pub reached_state : IsStateOf g (set_state (length positions) set)
    reached_state = (
      reverse reached.phases,
      set_state_after g (length positions) set (reverse reached.phases) set_has set_small,
      set_state_live (length positions) set set_small reached.some,
    )

  pub sets_differ : (a b : PositionSet) → IsReachedSet positions a → IsReachedSet positions b
      → set_state (length positions) a ≡ set_state (length positions) b → a ≡ b
  unfolding reached_state
  sets_differ a b x y e =
      let s = reached_state a x in
      let t = reached_state b y in
      let same = same_state_same_positions g s.0 t.0 (set_state (length positions) b) (subst (λ u. IsStateAfter g s.0 u) e s.1) t.1 in
      let h = (same_positions g s.0 t.0).0 same in
      same_bits a b (λ position. (
        (λ k. (set_has b y position).1 ((h position).0 ((set_has a x position).0 k))),
        (λ k. (set_has a x position).1 ((h position).1 ((set_has b y position).0 k))),
      ))

  pub map_at : (sets : List PositionSet) (i : ℕ) (d : State) → i < length sets
      → get_or (map (set_state (length positions)) sets) i d ≡ set_state (length positions) (set_at sets i)
  map_at [] i d h = absurd (omega (arith, h))
  map_at (set ∷ sets) zero d h = refl
  map_at (set ∷ sets) (suc i) d h = map_at sets i d (omega (arith, h))

  pub sets_are_distinct : (sets : List PositionSet) → AreSets positions sets
      → AllPairs (λ left right. left ≢ right) (map (set_state (length positions)) sets)
  sets_are_distinct sets are i j d a b e =
      let size = length-map sets (set_state (length positions)) in
      let inside : j < length sets = omega (arith, b, size) in
      are.distinct i j a inside
      (sets_differ (set_at sets i) (set_at sets j) (are.each i (omega arith)) (are.each j inside)
      (sym (map_at sets i d (omega arith)) ∙ (e ∙ map_at sets j d inside)))

  pub sets_are_states : (sets : List PositionSet) → AreSets positions sets → All (IsStateOf g) (map (set_state (length positions)) sets)
  sets_are_states sets are i d a =
      let size = length-map sets (set_state (length positions)) in
      let inside : i < length sets = omega (arith, a, size) in
      subst (λ s. IsStateOf g s) (sym (map_at sets i d inside)) (reached_state (set_at sets i) (are.each i inside))

  pub more_states : HasMoreSets positions → HasMoreStates g MOST_GRAMMAR_STATES
  more_states h =
      let size = length-map h.0 (set_state (length positions)) in
      (map (set_state (length positions)) h.0, omega (arith, h.1, size), sets_are_distinct h.0 h.2, sets_are_states h.0 h.2)
