-- What std's search in a rising list answers is the place of the element, since an order that tells all keys apart puts one place at
-- most at a key; and what each element gives, after one is put in.
use Rattle.std.proofs.Common.{◌≡◌, ℕ, zero, suc, ◌+◌, ◌<◌, ◌≤◌, List, [], ◌∷◌, length, map, get_or, Result, Ok, Err, Ordering, ◌∙◌, ap, refl, arith}
use Rattle.std.specs.declared.cmp.Ordering.TheVariants.{Less, Greater}
use Rattle.std.specs.Ordering.{is_lt, on, ordering_reverse, ordering_index}
use Rattle.std.specs.Cmp.{IsTotalOrder}
use Rattle.std.specs.List.{AllByRecursion, insert}
use Rattle.std.specs.List.Sorted.{IsStrictlySortedBy, IsBinarySearchResult, IsSearchInRange, IsNonDecreasingBy}
use Rattle.std.proofs.lemmas.List.{get_or-map, length-map}
use Rattle.std.proofs.lemmas.List.Sorted.{searchable_from_sorted}
use Rattle.std.proofs.lemmas.Map.Keys.{Less-from_sorted}
use Rattle.std.proofs.lemmas.Map.Lookups.{CmpEqualImpliesEq}

-- the element stands at the place; or those before the place are below the element, and those from there on above it
abbrev pub IsPlaceOf : {X : Type 0} → (X → X → Ordering) → List X → X → Result ℕ ℕ → Type 0
IsPlaceOf {X} compare xs x (Ok place) = (place < length xs) × ((d : X) → get_or xs place d ≡ x)
IsPlaceOf {X} compare xs x (Err place) =
    (place ≤ length xs)
    × ((k : ℕ) (d : X) → k < place → compare (get_or xs k d) x ≡ Less)
    × ((k : ℕ) (d : X) → place ≤ k → k < length xs → compare (get_or xs k d) x ≡ Greater)

module _ {X K : Type 0} (R : K → K → Ordering) (key : X → K) where
  all_on : (k : K) (xs : List X) → AllByRecursion (λ y. R k y ≡ Less) (map key xs) → AllByRecursion (λ y. R k (key y) ≡ Less) xs
  all_on k [] h = tt
  all_on k (x ∷ xs) h = (h.0, all_on k xs h.1)

  -- a list whose keys rise, rises by the keys
  sorted_on : (xs : List X) → IsStrictlySortedBy R (map key xs) → IsStrictlySortedBy (on key R) xs
  unfolding IsStrictlySortedBy
  sorted_on [] h = tt
  sorted_on (x ∷ xs) h = (all_on (key x) xs h.0, sorted_on xs h.1)

module _ {X K : Type 0} {R : K → K → Ordering} (total : IsTotalOrder R) (exact : CmpEqualImpliesEq R) (key : X → K) (xs : List X) (x : K) where
  not_falling : IsStrictlySortedBy (on key R) xs → IsNonDecreasingBy (λ y. ordering_index (R (key y) x)) xs
  not_falling rising =
      searchable_from_sorted total key xs x
      (λ k d low high. rw (total.antisymm (key (get_or xs (k + 1) d)) (key (get_or xs k d)))
      (ap (λ o. is_lt (ordering_reverse o)) (Less-from_sorted (on key R) xs k (k + 1) d rising (omega arith) high)))

  keyed : (y : X) (d : K) (i : ℕ) → i < length xs → get_or (map key xs) i d ≡ key (get_or xs i y)
  keyed y d i low = get_or-map key xs i y d low

  -- what std's search answers is the place
  pub place_searched : (d : X) (r : Result ℕ ℕ) → IsStrictlySortedBy R (map key xs) → IsSearchInRange r (length xs)
      → IsBinarySearchResult (λ y. R (key y) x) xs r → IsPlaceOf R (map key xs) x r
  place_searched d (Ok i) rising range found = (rw (length-map xs key) range, λ e. keyed d e i range ∙ exact _ _ (found d))
  place_searched d (Err i) rising range parts =
      let split = parts (not_falling (sorted_on R key xs rising)) in
      let len : length (map key xs) ≡ length xs = length-map xs key in (
        omega (arith, len, range),
        λ k e low. ap (λ y. R y x) (keyed d e k (omega (arith, low, range))) ∙ split.0 k d (omega arith) low,
        λ k e low high. ap (λ y. R y x) (keyed d e k (omega (arith, high, len))) ∙ split.1 k d low (omega (arith, high, len)),
      )

-- what each element gives, after one is put in
pub map-insert : {A B : Type 0} (f : A → B) (xs : List A) (place : ℕ) (y : A) → map f (insert xs place y) ≡ insert (map f xs) place (f y)
map-insert f xs zero y = refl
map-insert f [] (suc place) y = refl
map-insert f (x ∷ xs) (suc place) y = ap (λ rest. f x ∷ rest) (map-insert f xs place y)
