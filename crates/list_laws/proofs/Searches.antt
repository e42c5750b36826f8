-- What a binary search says of a rising list: by what std's search says, since an order that tells all keys apart puts
-- one place at most at the key.
use Rattle.std.proofs.Common.{◌≡◌, ℕ, ◌+◌, ◌<◌, ◌↔◌, List, [], ◌∷◌, length, map, get_or, Result, Ok, Err, Ordering, Contains, IsTrue, IfOk, is_ok, ◌∙◌, sym, ap, subst, refl, map-id, arith, inl, inr}
use Rattle.std.specs.declared.cmp.Ordering.TheVariants.{Less, Equal, Greater}
use Rattle.std.specs.Ordering.{is_lt, on, ordering_reverse, ordering_index}
use Rattle.std.specs.Cmp.{IsTotalOrder}
use Rattle.std.specs.List.Sorted.{IsStrictlySortedBy, IsBinarySearchResult, IsSearchInRange, IsPartitionPoint, IsNonDecreasingBy}
use Rattle.std.proofs.lemmas.Bool.{cases_lt}
use Rattle.std.proofs.lemmas.Cmp.{tied_itself}
use Rattle.std.proofs.lemmas.List.{get_or-map, length-map}
use Rattle.std.proofs.lemmas.List.Sorted.{searchable_from_sorted}
use Rattle.std.proofs.lemmas.Map.Keys.{Less-from_sorted}
use Rattle.std.proofs.lemmas.Map.Lookups.{CmpEqualImpliesEq}

-- a list with a place has an element
has_element : {X : Type 0} (xs : List X) (k : ℕ) → k < length xs → ((d : X) → ⊥) → ⊥
has_element [] k low none = absurd (omega arith)
has_element (y ∷ xs) k low none = none y

-- the key at a place is among the keys
contained_at : {X K : Type 0} (key : X → K) (xs : List X) (x : K) (i : ℕ) → i < length xs → ((d : X) → key (get_or xs i d) ≡ x)
    → Contains (map key xs) x
contained_at key [] x i low here = absurd (omega arith)
contained_at key (y ∷ xs) x i low here =
    let low' : i < length (map key (y ∷ xs)) = simp length-map low
    in (i, low', get_or-map key (y ∷ xs) i y x low ∙ here y)

-- the list rises by an order of the elements' keys, and r is what a search for the key x answered
module _ {X K : Type 0} {R : K → K → Ordering} (total : IsTotalOrder R) (exact : CmpEqualImpliesEq R) (key : X → K) (xs : List X) (x : K) where
  pub not_falling : IsStrictlySortedBy (on key R) xs → IsNonDecreasingBy (λ y. ordering_index (R (key y) x)) xs
  not_falling rising =
      searchable_from_sorted total key xs x
      (λ k d low high. rw (total.antisymm (key (get_or xs (k + 1) d)) (key (get_or xs k d)))
      (ap (λ o. is_lt (ordering_reverse o)) (Less-from_sorted (on key R) xs k (k + 1) d rising (omega arith) high)))

  -- no element has the key, where those before a place are below it and those from there on above it
  pub absent : (i : ℕ) → IsPartitionPoint (λ y. R (key y) x ≡ Less) (λ y. R (key y) x ≡ Greater) xs i → Contains (map key xs) x → ⊥
  absent i parts found =
      let low : found.0 < length xs = simp length-map at found.1
      in has_element xs found.0 low
      (λ d.
      let here : key (get_or xs found.0 d) ≡ x = sym (get_or-map key xs found.0 d x low) ∙ found.2
      in let tied : R (key (get_or xs found.0 d)) x ≡ Equal = rw here (tied_itself total x)
      in elim (cases_lt found.0 i) [
        | inl before ↦ let less = parts.0 found.0 d (omega arith) before in absurd (cc (less, tied))
        | inr following ↦ let greater = parts.1 found.0 d following low in absurd (cc (greater, tied))
      ])

  -- the element at the place that the search found has the key
  pub found_at : (r : Result ℕ ℕ) → IsBinarySearchResult (λ y. R (key y) x) xs r → IfOk r (λ i. (d : X) → key (get_or xs i d) ≡ x)
  found_at (Ok i) search = λ d. exact _ _ (search d)
  found_at (Err i) search = tt

  -- the search finds the key exactly where some element has it
  pub found_key : (r : Result ℕ ℕ) → IsStrictlySortedBy (on key R) xs → IsSearchInRange r (length xs)
      → IsBinarySearchResult (λ y. R (key y) x) xs r → IsTrue (is_ok r) ↔ Contains (map key xs) x
  found_key (Ok i) rising range result = (λ ok. contained_at key xs x i range (λ d. exact _ _ (result d)), λ found. refl)
  found_key (Err i) rising range result = (λ ok. absurd (cc), λ found. absurd (absent i (result (not_falling rising)) found))

-- the same where the elements are themselves the keys
pub found : {K : Type 0} {R : K → K → Ordering} → IsTotalOrder R → CmpEqualImpliesEq R → (xs : List K) (x : K) (r : Result ℕ ℕ)
    → IsStrictlySortedBy R xs → IsSearchInRange r (length xs) → IsBinarySearchResult (λ y. R y x) xs r → IsTrue (is_ok r) ↔ Contains xs x
found {K} total exact xs x r rising range result =
    subst (λ (keys : List K). IsTrue (is_ok r) ↔ Contains keys x) (map-id xs) (found_key total exact (λ (y : K). y) xs x r rising range result)
