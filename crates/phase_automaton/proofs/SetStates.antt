-- The state of a set of positions: the opening where the set has position 0, and otherwise the rising list of its positions.
use Rattle.std.proofs.Common.{◌≡◌, ℕ, ◌+◌, ◌<◌, ◌↔◌, inl, inr, Bool, true, false, eqb, cond, List, [], ◌∷◌, refl, sym, ap, ◌∙◌, arith, subst}
use Rattle.std.specs.Int.{bit_at}
use Rattle.std.specs.List.{Contains, filter, range_with_len}
use Rattle.std.specs.List.Sorted.{IsStrictlyIncreasing}
use Rattle.std.proofs.lemmas.Bool.{eqb-true, eq-eqb, false≢true, cond-true, cond-false}
use Rattle.std.proofs.lemmas.Bool.Decides.{eqb_tells}
use Rattle.std.proofs.lemmas.List.FromFn.{length-range_with_len, get_or-range_with_len}
use Rattle.std.proofs.lemmas.List.Kept.{IsStrictlyIncreasing-filter}
use Rattle.lexicon_definitions.specs.Grammars.{Grammar, State, Opening, After, IsStateAfter, IsLiveState}
use Rattle.lexicon_definitions.specs.GrammarMarks.{IsPositionIn}
use Rattle.lexicon_definitions.proofs.GrammarSteps.{position_above}
use Rattle.lexicon_definitions.proofs.GrammarStates.{in_cons, in_head, in_tail, in_nil}
use Rattle.phase_automaton.specs.declared.position_set.PositionSet.{PositionSet}
use Rattle.phase_automaton.specs.PositionSets.{HasPosition}

-- ---- the elements that a filter keeps
kept_first : (p : ℕ → Bool) (x : ℕ) (xs : List ℕ) (z : ℕ) → (Contains (filter p xs) z ↔ (Contains xs z × (p z ≡ true)))
    → (b : Bool) → p x ≡ b → Contains (cond b (x ∷ filter p xs) (filter p xs)) z ↔ (Contains (x ∷ xs) z × (p z ≡ true))
kept_first p x xs z rest true e = (
  (λ h. elim (in_cons x (filter p xs) z h) [
    | inl s ↦ (subst (λ y. Contains (x ∷ xs) y) s (in_head x xs), ap p (sym s) ∙ e)
    | inr m ↦ let k = rest.0 m in (in_tail x xs z k.0, k.1)
  ]),
  (λ h. elim (in_cons x xs z h.0) [
    | inl s ↦ subst (λ y. Contains (x ∷ filter p xs) y) s (in_head x (filter p xs))
    | inr m ↦ in_tail x (filter p xs) z (rest.1 (m, h.1))
  ]),
)
kept_first p x xs z rest false e = (
  (λ h. let k = rest.0 h in (in_tail x xs z k.0, k.1)),
  (λ h. elim (in_cons x xs z h.0) [
    | inl s ↦ absurd (false≢true (sym e ∙ (ap p s ∙ h.1)))
    | inr m ↦ rest.1 (m, h.1)
  ]),
)

in_filter : (p : ℕ → Bool) (xs : List ℕ) (z : ℕ) → Contains (filter p xs) z ↔ (Contains xs z × (p z ≡ true))
in_filter p [] z = ((λ h. absurd (in_nil z h)), (λ h. absurd (in_nil z h.0)))
in_filter p (x ∷ xs) z = kept_first p x xs z (in_filter p xs z) (p x) refl

in_range : (n z : ℕ) → z < n → Contains (range_with_len 0 n) z
in_range n z h =
    let size = length-range_with_len 0 n in
    (z, omega (arith, size, h), get_or-range_with_len 0 n z z h ∙ omega arith)

range_rises : (n : ℕ) → IsStrictlyIncreasing (range_with_len 0 n)
range_rises n k h =
    let size = length-range_with_len 0 n in
    let a = get_or-range_with_len 0 n k 0 (omega (arith, size, h)) in
    let b = get_or-range_with_len 0 n (k + 1) 0 (omega (arith, size, h)) in
    omega (arith, a, b)

-- ---- the state of a set
is_in : PositionSet → ℕ → Bool
is_in set position = eqb (bit_at set.bits position) 1

list_of : ℕ → PositionSet → List ℕ
list_of n set = filter (is_in set) (range_with_len 0 n)

pub set_state : ℕ → PositionSet → State
set_state n set = cond (is_in set 0) Opening (After (list_of n set))

in_list : (n : ℕ) (set : PositionSet) → ((position : ℕ) → HasPosition set position → position < n) → (position : ℕ)
    → Contains (list_of n set) position ↔ HasPosition set position
unfolding list_of is_in
in_list n set small position = (
  (λ h. eqb-true (bit_at set.bits position) 1 ((in_filter (is_in set) (range_with_len 0 n) position).0 h).1),
  (λ h. (in_filter (is_in set) (range_with_len 0 n) position).1 (in_range n position (small position h), eq-eqb (bit_at set.bits position) 1 h)),
)

opening_state : (n : ℕ) (set : PositionSet) → HasPosition set 0 → set_state n set ≡ Opening
unfolding set_state is_in
opening_state n set h = cond-true (is_in set 0) Opening (After (list_of n set)) (eq-eqb (bit_at set.bits 0) 1 h)

later_state : (n : ℕ) (set : PositionSet) → (HasPosition set 0 → ⊥) → set_state n set ≡ After (list_of n set)
unfolding set_state is_in
later_state n set h = cond-false (is_in set 0) Opening (After (list_of n set)) (elim (eqb_tells (bit_at set.bits 0) 1) [
  | inl y ↦ absurd (h y.1)
  | inr y ↦ y.0
])

-- the set's state is that after the list whose positions it has
pub set_state_after : (g : Grammar) (n : ℕ) (set : PositionSet) (ks : List ℕ) → ((position : ℕ) → HasPosition set position ↔ IsPositionIn g ks position)
    → ((position : ℕ) → HasPosition set position → position < n) → IsStateAfter g ks (set_state n set)
unfolding list_of
set_state_after g n set [] has small = opening_state n set ((has 0).1 refl)
set_state_after g n set (k ∷ ks) has small =
    subst (λ s. IsStateAfter g (k ∷ ks) s)
    (sym (later_state n set (λ h. (let above = position_above g (k ∷ ks) 0 ((has 0).0 h) in omega (arith, above))))) (
      IsStrictlyIncreasing-filter (is_in set) (range_with_len 0 n) (range_rises n),
      λ position. (
        (λ h. (has position).0 ((in_list n set small position).0 h)),
        (λ h. (in_list n set small position).1 ((has position).1 h)),
      ),
    )

pub set_state_live : (n : ℕ) (set : PositionSet) → ((position : ℕ) → HasPosition set position → position < n) → (position : ℕ) × HasPosition set position
    → IsLiveState (set_state n set)
set_state_live n set small some e = elim (eqb_tells (bit_at set.bits 0) 1) [
  | inl y ↦ let x = sym (opening_state n set y.1) ∙ e in cc
  | inr y ↦
      let x : After (list_of n set) ≡ After [] = sym (later_state n set y.1) ∙ e in
      let empty : list_of n set ≡ [] = cc in
      in_nil some.0 (subst (λ l. Contains l some.0) empty ((in_list n set small some.0).1 some.1))
]
