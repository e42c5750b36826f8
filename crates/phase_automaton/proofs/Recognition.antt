-- The machine's states stand for the positions after a list, by induction on the list from its end; what a state says is what
-- its positions say.
use Rattle.std.proofs.Common.{◌≡◌, ℕ, ◌<◌, ◌↔◌, inl, inr, IsTrue, IsSome, Option, Some, None, List, [], ◌∷◌, ◌++◌, length, map, reverse, refl, sym, ap, ◌∙◌, arith, subst}
use Rattle.std.proofs.lemmas.Bool.{cases_lt, cases_order, false≢true}
use Rattle.std.proofs.lemmas.List.{get_or_past, length-map, reverse-reverse}
use Rattle.lexicon_definitions.specs.Grammars.{Grammar, Accepts, After, IsStateAfter}
use Rattle.lexicon_definitions.specs.GrammarMarks.{IsPositionIn, IsLink}
use Rattle.lexicon_definitions.proofs.GrammarSteps.{accepts_final, live_position, same_positions}
use Rattle.phase_automaton.specs.declared.position_set.PositionSet.{PositionSet}
use Rattle.phase_automaton.specs.declared.position.Position.{Position}
use Rattle.phase_automaton.specs.PositionSets.{HasPosition}
use Rattle.phase_automaton.specs.Readers.{IsNet}
use Rattle.phase_automaton.specs.Automata.{StateMachine, numbered, next_state, state_after, state_at, is_accepting, IsStateIn, Recognizes}
use Rattle.phase_automaton.specs.Subsets.{IsReached, IsSetStep, set_at, StandsFor, IsSubsetMachine}
use Rattle.lexicon_definitions.proofs.GrammarStates.{in_nil}
use Rattle.phase_automaton.proofs.NumberedStates.{state_after-push}
use Rattle.phase_automaton.proofs.SetStates.{set_state, set_state_after}
use Rattle.phase_automaton.proofs.ReachedSets.{reverse_cons, reached_position, same_bits, set_small, map_at, sets_are_distinct, sets_are_states}

-- a state that stands for some positions stands for the same positions, said otherwise
stands_same : (sets : List PositionSet) (state : Option ℕ) (A B : ℕ → Type 0) → ((position : ℕ) → A position ↔ B position)
    → StandsFor sets state A → StandsFor sets state B
stands_same sets None A B e h = λ position b. h position ((e position).1 b)
stands_same sets (Some n) A B e h =
    (h.0, λ position. ((λ x. (e position).0 ((h.1 position).0 x)), (λ x. (h.1 position).1 ((e position).1 x))))

module _ (positions : List Position) (ends : PositionSet) (g : Grammar) (machine : StateMachine) (net : IsNet positions ends g)
    (subsets : IsSubsetMachine positions ends machine)
    (below : (before phase position : ℕ) → IsLink g before phase position → phase < machine.phases) (room : 0 < length positions)
  where
    -- one phase more
    next_stands : (r : List ℕ) (k : ℕ) (state : Option ℕ) → StandsFor subsets.sets state (IsReached positions r)
        → StandsFor subsets.sets (next_state machine state k) (IsReached positions (k ∷ r))
    next_stands r k None h = λ position x. h x.0 x.1
    next_stands r k (Some n) h = elim (cases_lt k machine.phases) [
      | inl small ↦ stands_same subsets.sets (next_state machine (Some n) k) (IsSetStep positions (set_at subsets.sets n) k) (IsReached positions (k ∷ r))
          (λ position. (
            (λ x. (x.0, (h.1 x.0).0 x.1, x.2)),
            (λ x. (x.0, (h.1 x.0).1 x.1, x.2)),
          ))
          (subsets.steps n k h.0 small)
      | inr past ↦
          subst (λ s. StandsFor subsets.sets s (IsReached positions (k ∷ r))) (sym (get_or_past (numbered machine n).next k None (omega (arith, subsets.each_phase n h.0, past))))
          (λ position x. (let small = below x.0 k position ((net.step x.0 k position).0 x.2) in omega (arith, small, past)))
    ]

    reached_stands : (r : List ℕ) → StandsFor subsets.sets (state_after machine (reverse r)) (IsReached positions r)
    reached_stands [] = (subsets.states.some, subsets.states.first)
    reached_stands (k ∷ r) =
        subst (λ s. StandsFor subsets.sets s (IsReached positions (k ∷ r)))
        (sym (ap (state_after machine) (reverse_cons k r) ∙ state_after-push machine (reverse r) k))
        (next_stands r k (state_after machine (reverse r)) (reached_stands r))

    pub stands : (ks : List ℕ) → StandsFor subsets.sets (state_after machine ks) (IsPositionIn g ks)
    stands ks =
        subst (λ l. StandsFor subsets.sets (state_after machine l) (IsPositionIn g l)) (reverse-reverse ks)
        (stands_same subsets.sets (state_after machine (reverse (reverse ks))) (IsReached positions (reverse ks)) (IsPositionIn g (reverse (reverse ks)))
        (reached_position positions ends g net (reverse ks)) (reached_stands (reverse ks)))

    -- sets with the same positions have one number
    one_number : (m n : ℕ) → m < length subsets.sets → n < length subsets.sets
        → ((position : ℕ) → HasPosition (set_at subsets.sets m) position ↔ HasPosition (set_at subsets.sets n) position) → m ≡ n
    one_number m n h k same =
        let e = same_bits (set_at subsets.sets m) (set_at subsets.sets n) same in
        elim (cases_order m n) [
          | inl s ↦ s
          | inr d ↦ elim d [
            | inl less ↦ absurd (subsets.states.are.distinct m n less k e)
            | inr more ↦ absurd (subsets.states.are.distinct n m more h (sym e))
          ]
        ]

    accepts_of : (ks : List ℕ) (state : Option ℕ) → StandsFor subsets.sets state (IsPositionIn g ks)
        → IsTrue (is_accepting machine state) ↔ Accepts g ks
    accepts_of ks None h = (
      (λ x. absurd (false≢true x)),
      (λ x. let p = (accepts_final g ks).0 x in absurd (h p.0 p.1)),
    )
    accepts_of ks (Some n) h = (
      (λ x.
          let p = (subsets.accepting n h.0).0 x in
          (accepts_final g ks).1 (p.0, (h.1 p.0).0 p.1, (net.final p.0).0 p.2)),
      (λ x.
          let p = (accepts_final g ks).0 x in
          (subsets.accepting n h.0).1 (p.0, (h.1 p.0).1 p.1, (net.final p.0).1 p.2)),
    )

    live_of : (ks : List ℕ) (state : Option ℕ) → StandsFor subsets.sets state (IsPositionIn g ks)
        → IsSome state ↔ ((rest : List ℕ) × Accepts g (ks ++ rest))
    live_of ks None h = (
      (λ x. absurd (false≢true x)),
      (λ x. let p = (live_position g ks).0 x in absurd (h p.0 p.1)),
    )
    live_of ks (Some n) h = (
      (λ x. let p = (subsets.states.are.each n h.0).some in (live_position g ks).1 (p.0, (h.1 p.0).0 p.1)),
      (λ x. refl),
    )

    same_of : (p q : List ℕ) (s t : Option ℕ) → StandsFor subsets.sets s (IsPositionIn g p) → StandsFor subsets.sets t (IsPositionIn g q)
        → (s ≡ t) ↔ ((position : ℕ) → IsPositionIn g p position ↔ IsPositionIn g q position)
    same_of p q None None h k =
        ((λ e position. ((λ x. absurd (h position x)), (λ x. absurd (k position x)))), (λ e. refl))
    same_of p q None (Some n) h k = (
      (λ e. cc),
      (λ e. let x = (subsets.states.are.each n k.0).some in absurd (h x.0 ((e x.0).1 ((k.1 x.0).0 x.1)))),
    )
    same_of p q (Some m) None h k = (
      (λ e. cc),
      (λ e. let x = (subsets.states.are.each m h.0).some in absurd (k x.0 ((e x.0).0 ((h.1 x.0).0 x.1)))),
    )
    same_of p q (Some m) (Some n) h k = (
      (λ e position.
          let i : m ≡ n = cc in (
            (λ x. (k.1 position).0 (subst (λ j. HasPosition (set_at subsets.sets j) position) i ((h.1 position).1 x))),
            (λ x. (h.1 position).0 (subst (λ j. HasPosition (set_at subsets.sets j) position) (sym i) ((k.1 position).1 x))),
          )),
      (λ e. ap Some (one_number m n h.0 k.0 (λ position. (
        (λ x. (k.1 position).1 ((e position).0 ((h.1 position).0 x))),
        (λ x. (h.1 position).1 ((e position).1 ((k.1 position).0 x))),
      )))),
    )

    within_of : (ks : List ℕ) (state : Option ℕ) → StandsFor subsets.sets state (IsPositionIn g ks) → IsStateIn machine state
    within_of ks None h = tt
    within_of ks (Some n) h = omega (arith, h.0, subsets.count)

    number_of : (n : ℕ) → n < length subsets.sets → (r : List ℕ) (state : Option ℕ) → StandsFor subsets.sets state (IsReached positions r)
        → ((position : ℕ) → HasPosition (set_at subsets.sets n) position ↔ IsReached positions r position) → (position : ℕ) × HasPosition (set_at subsets.sets n) position
        → state ≡ Some n
    number_of n within r None h has some = absurd (h some.0 ((has some.0).0 some.1))
    number_of n within r (Some m) h has some =
        ap Some (one_number m n h.0 within (λ position. (
          (λ x. (has position).1 ((h.1 position).0 x)),
          (λ x. (h.1 position).1 ((has position).0 x)),
        )))

    -- the grammar's state stands at the number
    after_of : (ks : List ℕ) (state : Option ℕ) → StandsFor subsets.sets state (IsPositionIn g ks)
        → IsStateAfter g ks (state_at (map (set_state (length positions)) subsets.sets) state)
    after_of ks (Some n) h =
        subst (λ s. IsStateAfter g ks s) (sym (map_at positions ends g net room subsets.sets n (After []) h.0))
        (set_state_after g (length positions) (set_at subsets.sets n) ks h.1
        (set_small positions ends g net room (set_at subsets.sets n) (subsets.states.are.each n h.0)))
    after_of [] None h = absurd (h 0 refl)
    after_of (k ∷ ks) None h =
        ((λ i l. absurd (omega (arith, l))), λ position. ((λ x. absurd (in_nil position x)), (λ x. absurd (h position x))))

    pub recognizes : Recognizes machine g
    recognizes = record {
      states = map (set_state (length positions)) subsets.sets;
      count = length-map subsets.sets (set_state (length positions)) ∙ sym subsets.count;
      after = λ ks. after_of ks (state_after machine ks) (stands ks);
      distinct = sets_are_distinct positions ends g net room subsets.sets subsets.states.are;
      each_live = λ i d h. (sets_are_states positions ends g net room subsets.sets subsets.states.are i d h).2;
      accepts = λ ks. accepts_of ks (state_after machine ks) (stands ks);
      live = λ ks. live_of ks (state_after machine ks) (stands ks);
      same = λ p q.
          let e = same_of p q (state_after machine p) (state_after machine q) (stands p) (stands q) in (
            (λ x. (same_positions g p q).1 (e.0 x)),
            (λ x. e.1 ((same_positions g p q).0 x)),
          );
      within = λ ks. within_of ks (state_after machine ks) (stands ks);
      reached = λ n h.
          let within : n < length subsets.sets = omega (arith, h, subsets.count) in
          let r = subsets.states.are.each n within in
          (reverse r.phases, number_of n within r.phases (state_after machine (reverse r.phases)) (reached_stands r.phases) r.has r.some);
    }
