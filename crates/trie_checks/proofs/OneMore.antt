-- Lists with one element more, for loops: what holds of each element or of one, and the greatest and the least of their numbers; each by the
-- element being among the first ones or the last.
use Rattle.std.proofs.Common.{◌≡◌, ℕ, ◌+◌, ◌<◌, ◌≤◌, ◌↔◌, ◌⊎◌, inl, inr, List, [], ◌∷◌, ◌++◌, length, take, get_or, map, max, min, nat_cmp, sym, subst, arith}
use Rattle.std.specs.Prelude.{All}
use Rattle.std.specs.Ordering.{ord_max}
use Rattle.std.proofs.lemmas.Bool.Decides.{nat_tests}
use Rattle.std.proofs.lemmas.List.{take_more, take_all, map_push}
use Rattle.std.proofs.lemmas.List.Elements.{All-push, All-contains, Contains-append_left, Contains-push, Contains-push_cases}
use Rattle.list_laws.proofs.Sorted.{All-from_Contains}
use Rattle.trie_checks.specs.Bounds.{IsGreatest, IsLeastEnd, HasOne}

pub ord_max-nat : (m n : ℕ) → ord_max nat_cmp m n ≡ max m n
ord_max-nat m n = grind (arith, nat_tests)

module _ {X : Type 0} where
  -- a fact of the elements so far and of one more
  pub one_taken : (P : List X → Type 0) (items : List X) (k : ℕ) (item : X) → k < length items → item ≡ get_or items k item
      → P (take k items ++ item ∷ []) → P (take (k + 1) items)
  one_taken P items k item below is h =
      subst P (sym (take_more items k item below)) (subst (λ (x : X). P (take k items ++ x ∷ [])) is h)

  -- of elements that are mapped
  pub one_mapped : {Y : Type 0} (f : X → Y) (P : List Y → Type 0) (items : List X) (k : ℕ) (item : X) → k < length items → item ≡ get_or items k item
      → P (map f (take k items) ++ f item ∷ []) → P (map f (take (k + 1) items))
  one_mapped f P items k item below is h =
      one_taken (λ (xs : List X). P (map f xs)) items k item below is (subst P (sym (map_push f (take k items) item)) h)

  pub all_taken : (P : List X → Type 0) (items : List X) (k : ℕ) → length items ≤ k → P (take k items) → P items
  all_taken P items k enough h = subst P (take_all k items enough) h

  -- what holds of each, holds of each but the last, and of the last
  pub All-push_parts : (P : X → Type 0) (xs : List X) (x : X) → All P (xs ++ x ∷ []) → All P xs × P x
  All-push_parts P xs x h = (
    All-from_Contains P xs (λ y m. All-contains P (xs ++ x ∷ []) y h (Contains-append_left xs (x ∷ []) y m)),
    All-contains P (xs ++ x ∷ []) x h (Contains-push xs x),
  )

  pub HasOne-push : (P : X → Type 0) (xs : List X) (x : X) → HasOne P (xs ++ x ∷ []) ↔ (HasOne P xs ⊎ P x)
  HasOne-push P xs x = (
    λ h. elim (Contains-push_cases xs x h.0 h.1) [
      | inl before ↦ inl (h.0, before, h.2)
      | inr same ↦ inr (subst P (sym same) h.2)
    ],
    elim [
      | inl h ↦ (h.0, Contains-append_left xs (x ∷ []) h.0 h.1, h.2)
      | inr p ↦ (x, Contains-push xs x, p)
    ],
  )

  -- what is told by one of the elements so far, and by the next
  pub told_more : (P : X → Type 0) (xs : List X) (x : X) (Old New : Type 0) → Old ↔ HasOne P xs → New ↔ (Old ⊎ P x) → New ↔ HasOne P (xs ++ x ∷ [])
  told_more P xs x Old New old new = (
    λ h. (HasOne-push P xs x).1 (elim (new.0 h) [ inl before ↦ inl (old.0 before) | inr here ↦ inr here ]),
    λ h. new.1 (elim ((HasOne-push P xs x).0 h) [ inl before ↦ inl (old.1 before) | inr here ↦ inr here ]),
  )

  pub greatest_next : (number : X → ℕ) (xs : List X) (x : X) (greatest next : ℕ) → next ≡ max greatest (number x) → IsGreatest number xs greatest
      → IsGreatest number (xs ++ x ∷ []) next
  greatest_next number xs x greatest next e is n = (
    λ l. All-push (λ y. number y ≤ n) xs x ((is n).0 (omega (arith, l, e))) (omega (arith, l, e)),
    λ a.
        let (rest, last) = All-push_parts (λ y. number y ≤ n) xs x a in
        let before = (is n).1 rest in
        omega (arith, before, last, e),
  )

  pub least_next : (number : X → ℕ) (xs : List X) (x : X) (least next : ℕ) → next ≡ min least (number x) → IsLeastEnd number xs least
      → IsLeastEnd number (xs ++ x ∷ []) next
  least_next number xs x least next e is n low = (
    λ l. All-push (λ y. n < number y) xs x ((is n low).0 (omega (arith, l, e))) (omega (arith, l, e)),
    λ a.
        let (rest, last) = All-push_parts (λ y. n < number y) xs x a in
        let before = (is n low).1 rest in
        omega (arith, before, last, e),
  )
