-- Rising lists with the same elements are equal; so lists of phases with the same positions after them have the same state.
use Rattle.std.proofs.Common.{◌≡◌, ◌⊎◌, inl, inr, ℕ, ◌↔◌, List, [], ◌∷◌, refl, sym, ap, ◌∙◌}
use Rattle.std.specs.List.{Contains}
use Rattle.std.specs.List.Sorted.{IsStrictlyIncreasing}
use Rattle.std.proofs.lemmas.Map.Keys.{sorted_from_strictly_increasing}
use Rattle.lexicon_definitions.specs.Grammars.{Grammar, State, Opening, After, IsStateAfter, HaveSamePositions}
use Rattle.std.proofs.lemmas.Cmp.{nat_cmp_total}
use Rattle.list_laws.proofs.Sorted.{Contains-first, Contains-later, Contains-cons_cases, not_Contains-nil, same_sorted}

-- what a list of phases contains, for crates that know no other laws of lists
pub in_cons : (x : ℕ) (xs : List ℕ) (y : ℕ) → Contains (x ∷ xs) y → (x ≡ y) ⊎ Contains xs y
in_cons x xs y h = Contains-cons_cases x xs y h

pub in_head : (x : ℕ) (xs : List ℕ) → Contains (x ∷ xs) x
in_head x xs = Contains-first x xs

pub in_tail : (x : ℕ) (xs : List ℕ) (y : ℕ) → Contains xs y → Contains (x ∷ xs) y
in_tail x xs y h = Contains-later x xs y h

pub in_nil : (y : ℕ) → Contains [] y → ⊥
in_nil y h = not_Contains-nil y h

pub increasing_same : (xs ys : List ℕ) → IsStrictlyIncreasing xs → IsStrictlyIncreasing ys
    → ((z : ℕ) → Contains xs z ↔ Contains ys z) → xs ≡ ys
increasing_same xs ys s t h =
    same_sorted nat_cmp_total xs ys (sorted_from_strictly_increasing xs s) (sorted_from_strictly_increasing ys t) (λ z. (h z).0) (λ z. (h z).1)

-- lists with the same positions after them have the same state
pub same_positions_same_state : (g : Grammar) (p q : List ℕ) (s t : State) → HaveSamePositions g p q → IsStateAfter g p s
    → IsStateAfter g q t → s ≡ t
same_positions_same_state g [] [] s t same h k = h ∙ sym k
same_positions_same_state g [] (j ∷ q) s t (inl both) h k = let e = both.1 in cc
same_positions_same_state g [] (j ∷ q) s t (inr same) h k = absurd (same.0 refl)
same_positions_same_state g (i ∷ p) [] s t (inl both) h k = let e = both.0 in cc
same_positions_same_state g (i ∷ p) [] s t (inr same) h k = absurd (same.1 refl)
same_positions_same_state g (i ∷ p) (j ∷ q) Opening t same h k = absurd h
same_positions_same_state g (i ∷ p) (j ∷ q) (After positions) Opening same h k = absurd k
same_positions_same_state g (i ∷ p) (j ∷ q) (After positions) (After others) (inl both) h k = let e = both.0 in cc
same_positions_same_state g (i ∷ p) (j ∷ q) (After positions) (After others) (inr same) h k =
    ap After (increasing_same positions others h.0 k.0 (λ z. (
      (λ x. (k.1 z).1 ((same.2 z).0 ((h.1 z).0 x))),
      (λ x. (h.1 z).1 ((same.2 z).1 ((k.1 z).0 x))),
    )))
