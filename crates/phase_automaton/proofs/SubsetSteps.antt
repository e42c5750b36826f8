-- The sets of positions one step on: a set that is new is after the others, and those keep their numbers.
use Rattle.std.proofs.Common.{◌≡◌, ℕ, ◌<◌, ◌≤◌, ◌↔◌, inl, inr, Option, Some, None, List, [], ◌∷◌, ◌++◌, length, get_or, refl, sym, ap, ◌∙◌, arith, subst}
use Rattle.std.proofs.lemmas.Bool.{cases_lt}
use Rattle.std.proofs.lemmas.List.{get_or_append_left, get_or_push, length_push}
use Rattle.lexicon_definitions.specs.declared.limits.TheConstants.{MOST_GRAMMAR_STATES}
use Rattle.phase_automaton.specs.declared.position_set.PositionSet.{PositionSet}
use Rattle.phase_automaton.specs.declared.position.Position.{Position}
use Rattle.phase_automaton.specs.PositionSets.{HasPosition}
use Rattle.phase_automaton.specs.Pieces.{position_at, Follows}
use Rattle.phase_automaton.specs.Subsets.{IsSetStep, IsReachedSet, set_at, AreSets, AreStates, HasMoreSets, StandsFor, Extends, IsNewSet, FindsState, AreStepsOf}

abbrev no_set : PositionSet
no_set = record { bits = 0 }

-- what the program computes is the step of the set
pub next_has : (positions : List Position) (set followers next : PositionSet) (phase : ℕ)
    → ((before position : ℕ) → Follows positions before position → position < length positions)
    → ((position : ℕ) → HasPosition followers position ↔ ((earlier : ℕ) × HasPosition set earlier × Follows positions earlier position))
    → ((position : ℕ) → HasPosition next position
    ↔ (HasPosition followers position × (position < length positions) × ((position_at positions position).phase ≡ phase)))
    → (position : ℕ) → HasPosition next position ↔ IsSetStep positions set phase position
next_has positions set followers next phase closed f n position = (
  (λ h. let x = (n position).0 h in let y = (f position).0 x.0 in (y.0, y.1, (y.2, x.2))),
  (λ h. (n position).1 ((f position).1 (h.0, h.1, h.2.0), closed h.0 position h.2.0, h.2.1)),
)

pub reached_next : (positions : List Position) (set next : PositionSet) (phase : ℕ) → IsReachedSet positions set
    → ((position : ℕ) → HasPosition next position ↔ IsSetStep positions set phase position) → (position : ℕ) × HasPosition next position
    → IsReachedSet positions next
reached_next positions set next phase r n some = record {
  phases = phase ∷ r.phases;
  has = λ position. (
    (λ h. let x = (n position).0 h in (x.0, (r.has x.0).0 x.1, x.2)),
    (λ h. (n position).1 (h.0, (r.has h.0).1 h.1, h.2)),
  );
  some = some;
}

pub pushed_at : (sets : List PositionSet) (set : PositionSet) → set_at (sets ++ set ∷ []) (length sets) ≡ set
pushed_at sets set = get_or_push sets set no_set (length sets) refl

pub pushed_before : (sets : List PositionSet) (set : PositionSet) (i : ℕ) → i < length sets → set_at (sets ++ set ∷ []) i ≡ set_at sets i
pushed_before sets set i h = get_or_append_left sets (set ∷ []) no_set i h

-- one set more
pub push_sets : (positions : List Position) (sets : List PositionSet) (set : PositionSet) → AreSets positions sets → IsNewSet sets set
    → IsReachedSet positions set → AreSets positions (sets ++ set ∷ [])
push_sets positions sets set are new reached = record {
  distinct = λ i j h k e. elim (cases_lt j (length sets)) [
    | inl below ↦ are.distinct i j h below (sym (pushed_before sets set i (omega arith)) ∙ (e ∙ pushed_before sets set j below))
    | inr past ↦
        let last : j ≡ length sets = omega (arith, k, length_push sets set) in
        new.other i (omega arith) (sym (pushed_before sets set i (omega arith)) ∙ (e ∙ (ap (λ n. set_at (sets ++ set ∷ []) n) last ∙ pushed_at sets set)))
  ];
  each = λ i h. elim (cases_lt i (length sets)) [
    | inl below ↦ subst (λ s. IsReachedSet positions s) (sym (pushed_before sets set i below)) (are.each i below)
    | inr past ↦
        let last : i ≡ length sets = omega (arith, h, length_push sets set) in
        subst (λ s. IsReachedSet positions s) (sym (ap (λ n. set_at (sets ++ set ∷ []) n) last ∙ pushed_at sets set)) reached
  ];
}

push_extends : (sets : List PositionSet) (set : PositionSet) → Extends sets (sets ++ set ∷ [])
push_extends sets set = record { longer = omega (arith, length_push sets set); same = λ i h. pushed_before sets set i h }

pub extends_refl : (sets : List PositionSet) → Extends sets sets
extends_refl sets = record { longer = omega arith; same = λ i h. refl }

pub extends_more : (a b c : List PositionSet) → Extends a b → Extends b c → Extends a c
extends_more a b c h k = record {
  longer = omega (arith, h.longer, k.longer);
  same = λ i l. k.same i (omega (arith, h.longer, l)) ∙ h.same i l;
}

-- what follows where the state of a set was found
pub finds_extends : (old new : List PositionSet) (set : PositionSet) (state : Option ℕ) → FindsState old new set state → Extends old new
finds_extends old new set None h = subst (λ s. Extends old s) (sym h.0) (extends_refl old)
finds_extends old new set (Some n) (inl h) = subst (λ s. Extends old s) (sym h.0) (extends_refl old)
finds_extends old new set (Some n) (inr h) = subst (λ s. Extends old s) (sym h.0) (push_extends old set)

pub finds_states : (positions : List Position) (old new : List PositionSet) (set : PositionSet) (state : Option ℕ) → FindsState old new set state
    → AreStates positions old → length new ≤ MOST_GRAMMAR_STATES → ((position : ℕ) × HasPosition set position → IsReachedSet positions set) → AreStates positions new
finds_states positions old new set None h are few reached = subst (λ s. AreStates positions s) (sym h.0) are
finds_states positions old new set (Some n) (inl h) are few reached = subst (λ s. AreStates positions s) (sym h.0) are
finds_states positions old new set (Some n) (inr h) are few reached =
    subst (λ s. AreStates positions s) (sym h.0)
    (record {
      some = omega (arith, are.some, length_push old set);
      few = subst (λ s. length s ≤ MOST_GRAMMAR_STATES) h.0 few;
      first = λ position. subst (λ s. HasPosition s position ↔ (position ≡ 0)) (sym (pushed_before old set 0 are.some)) (are.first position);
      are = push_sets positions old set are.are h.2 (reached h.2.some);
    })

pub finds_stands : (old new : List PositionSet) (set : PositionSet) (state : Option ℕ) (Has : ℕ → Type 0) → FindsState old new set state
    → ((position : ℕ) → HasPosition set position ↔ Has position) → StandsFor new state Has
finds_stands old new set None Has h has = λ position x. h.1 position ((has position).1 x)
finds_stands old new set (Some n) Has (inl h) has = (
  subst (λ s. n < length s) (sym h.0) h.1,
  λ position. subst (λ s. HasPosition s position ↔ Has position) (sym (ap (λ s. set_at s n) h.0 ∙ h.2)) (has position),
)
finds_stands old new set (Some n) Has (inr h) has = (
  subst (λ s. n < length s) (sym h.0) (omega (arith, h.1, length_push old set)),
  λ position. subst (λ s. HasPosition s position ↔ Has position)
      (sym (ap (λ s. set_at s n) h.0 ∙ (ap (λ i. set_at (old ++ set ∷ []) i) h.1 ∙ pushed_at old set))) (has position),
)

pub stands_extends : (old new : List PositionSet) (state : Option ℕ) (Has : ℕ → Type 0) → Extends old new → StandsFor old state Has
    → StandsFor new state Has
stands_extends old new None Has e h = h
stands_extends old new (Some n) Has e h = (
  omega (arith, e.longer, h.0),
  λ position. subst (λ s. HasPosition s position ↔ Has position) (sym (e.same n h.0)) (h.1 position),
)

-- one step more
pub row_more : (positions : List Position) (old new : List PositionSet) (set : PositionSet) (row : List (Option ℕ)) (state : Option ℕ)
    → Extends old new → AreStepsOf positions old set row → StandsFor new state (IsSetStep positions set (length row))
    → AreStepsOf positions new set (row ++ state ∷ [])
row_more positions old new set row state e h here phase within = elim (cases_lt phase (length row)) [
  | inl below ↦ subst (λ s. StandsFor new s (IsSetStep positions set phase)) (sym (get_or_append_left row (state ∷ []) None phase below))
      (stands_extends old new (get_or row phase None) (IsSetStep positions set phase) e (h phase below))
  | inr past ↦
      let last : phase ≡ length row = omega (arith, within, length_push row state) in
      subst (λ k. StandsFor new (get_or (row ++ state ∷ []) k None) (IsSetStep positions set k)) (sym last)
      (subst (λ s. StandsFor new s (IsSetStep positions set (length row))) (sym (get_or_push row state None (length row) refl)) here)
]

-- one set more than an automaton may have
pub more_sets : (positions : List Position) (sets : List PositionSet) (set : PositionSet) → AreStates positions sets → length sets ≡ MOST_GRAMMAR_STATES
    → IsNewSet sets set → IsReachedSet positions set → HasMoreSets positions
more_sets positions sets set are full new reached =
    (sets ++ set ∷ [], omega (arith, full, length_push sets set), push_sets positions sets set are.are new reached)

-- the set of position 0 is the first
pub first_states : (positions : List Position) (set : PositionSet) → ((position : ℕ) → HasPosition set position ↔ (position ≡ 0)) → AreStates positions (set ∷ [])
first_states positions set has = record {
  some = omega arith;
  few = omega arith;
  first = has;
  are = record {
    distinct = λ i j h k. absurd (omega (arith, h, k));
    each = λ i h.
        let e : i ≡ 0 = omega (arith, h) in
        subst (λ n. IsReachedSet positions (set_at (set ∷ []) n)) (sym e) (record { phases = []; has = has; some = (0, (has 0).1 refl) });
  };
}
