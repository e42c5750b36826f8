-- What a rising list has after elements were put in, by induction on the list and by how its first element compares with
-- the new one; and that a binary search finds the place.
use Rattle.std.proofs.Common.{◌≡◌, ℕ, zero, suc, ◌<◌, ◌≤◌, ◌⊎◌, ◌↔◌, inl, inr, List, [], ◌∷◌, ◌++◌, length, map-id, take, drop, get_or, Ok, Err, refl, sym, ◌∙◌, ap, subst, arith}
use Rattle.std.specs.List.{AllByRecursion, Contains, insert}
use Rattle.std.specs.List.Sorted.{IsStrictlySortedBy, IsBinarySearchResult, IsPartitionPoint}
use Rattle.std.specs.Cmp.{IsTotalOrder}
use Rattle.std.specs.declared.cmp.Ordering.{Ordering}
use Rattle.std.specs.declared.cmp.Ordering.TheVariants.{Less, Equal, Greater}
use Rattle.std.specs.Ordering.{ordering_reverse}
use Rattle.std.proofs.lemmas.Map.Keys.{sorted_tail}
use Rattle.std.proofs.lemmas.Map.Lookups.{CmpEqualImpliesEq}
use Rattle.list_laws.specs.RisingSets.{put, with_element, with_elements}
use Rattle.list_laws.proofs.Sorted.{Contains-first, Contains-later, Contains-cons_cases, not_Contains-nil, Less-from_later, same_sorted}
use Rattle.list_laws.proofs.Searches.{not_falling, absent}

-- how many elements there are
longer_by : {X : Type 0} (order : Ordering) (x first : X) (rest more : List X) → length rest ≤ length more
    → length (first ∷ rest) ≤ length (put order x first rest more)
longer_by Less x first rest more h = omega arith
longer_by Equal x first rest more h = omega arith
longer_by Greater x first rest more h = omega arith

pub length-with_element : {X : Type 0} (R : X → X → Ordering) (xs : List X) (x : X) → length xs ≤ length (with_element R xs x)
length-with_element R [] x = omega arith
length-with_element R (y ∷ ys) x = longer_by (R y x) x y ys (with_element R ys x) (length-with_element R ys x)

pub length-with_elements : {X : Type 0} (R : X → X → Ordering) (set xs : List X) → length set ≤ length (with_elements R set xs)
length-with_elements R set [] = omega arith
length-with_elements R set (x ∷ xs) =
    let here = length-with_element R set x in
    let later = length-with_elements R (with_element R set x) xs in omega arith

-- elements are put in one list after the other
pub with_elements-append : {X : Type 0} (R : X → X → Ordering) (set xs ys : List X)
    → with_elements R set (xs ++ ys) ≡ with_elements R (with_elements R set xs) ys
with_elements-append R set [] ys = refl
with_elements-append R set (x ∷ xs) ys = with_elements-append R (with_element R set x) xs ys

module _ {X : Type 0} {R : X → X → Ordering} (o : IsTotalOrder R) (exact : CmpEqualImpliesEq R) where
  greater_back : (x y : X) → R x y ≡ Greater → R y x ≡ Less
  greater_back x y e = o.antisymm y x ∙ ap ordering_reverse e

  above_all : (x : X) (xs : List X) → ((y : X) → Contains xs y → R x y ≡ Less) → AllByRecursion (λ y. R x y ≡ Less) xs
  above_all x [] h = tt
  above_all x (y ∷ ys) h = (h y (Contains-first y ys), above_all x ys (λ z m. h z (Contains-later y ys z m)))

  -- ---- what the list has

  put_members : (order : Ordering) (x first : X) (rest more : List X) → ((y : X) → Contains more y → Contains rest y ⊎ (x ≡ y))
      → (y : X) → Contains (put order x first rest more) y → Contains (first ∷ rest) y ⊎ (x ≡ y)
  put_members Less x first rest more m y inside = elim (Contains-cons_cases first more y inside) [
    | inl here ↦ inl (subst (λ z. Contains (first ∷ rest) z) here (Contains-first first rest))
    | inr later ↦ elim (m y later) [ inl there ↦ inl (Contains-later first rest y there) | inr same ↦ inr same ]
  ]
  put_members Equal x first rest more m y inside = inl inside
  put_members Greater x first rest more m y inside =
      elim (Contains-cons_cases x (first ∷ rest) y inside) [ inl here ↦ inr here | inr later ↦ inl later ]

  put_keeps : (order : Ordering) (x first : X) (rest more : List X) → ((y : X) → Contains rest y → Contains more y)
      → (y : X) → Contains (first ∷ rest) y → Contains (put order x first rest more) y
  put_keeps Less x first rest more m y inside = elim (Contains-cons_cases first rest y inside) [
    | inl here ↦ subst (λ z. Contains (first ∷ more) z) here (Contains-first first more)
    | inr later ↦ Contains-later first more y (m y later)
  ]
  put_keeps Equal x first rest more m y inside = inside
  put_keeps Greater x first rest more m y inside = Contains-later x (first ∷ rest) y inside

  put_itself : (order : Ordering) (x first : X) (rest more : List X) → R first x ≡ order → Contains more x → Contains (put order x first rest more) x
  put_itself Less x first rest more e m = Contains-later first more x m
  put_itself Equal x first rest more e m = subst (λ z. Contains (first ∷ rest) z) (exact first x e) (Contains-first first rest)
  put_itself Greater x first rest more e m = Contains-first x (first ∷ rest)

  from_with_element : (xs : List X) (x y : X) → Contains (with_element R xs x) y → Contains xs y ⊎ (x ≡ y)
  from_with_element [] x y inside = elim (Contains-cons_cases x [] y inside) [ inl here ↦ inr here | inr later ↦ inl later ]
  from_with_element (first ∷ rest) x y inside =
      put_members (R first x) x first rest (with_element R rest x) (λ z m. from_with_element rest x z m) y inside

  kept_with_element : (xs : List X) (x y : X) → Contains xs y → Contains (with_element R xs x) y
  kept_with_element [] x y inside = absurd (not_Contains-nil y inside)
  kept_with_element (first ∷ rest) x y inside =
      put_keeps (R first x) x first rest (with_element R rest x) (λ z m. kept_with_element rest x z m) y inside

  itself_with_element : (xs : List X) (x : X) → Contains (with_element R xs x) x
  itself_with_element [] x = Contains-first x []
  itself_with_element (first ∷ rest) x = put_itself (R first x) x first rest (with_element R rest x) refl (itself_with_element rest x)

  -- it has the element, those that were there, and no other
  pub Contains-with_element : (xs : List X) (x y : X) → Contains (with_element R xs x) y ↔ (Contains xs y ⊎ (x ≡ y))
  Contains-with_element xs x y = (
    from_with_element xs x y,
    λ h. elim h [
      | inl there ↦ kept_with_element xs x y there
      | inr same ↦ subst (λ z. Contains (with_element R xs x) z) same (itself_with_element xs x)
    ],
  )

  pub Contains-with_elements : (set xs : List X) (y : X) → Contains (with_elements R set xs) y ↔ (Contains set y ⊎ Contains xs y)
  Contains-with_elements set [] y = (λ m. inl m, λ h. elim h [ inl m ↦ m | inr n ↦ absurd (not_Contains-nil y n) ])
  Contains-with_elements set (x ∷ xs) y =
      let later = Contains-with_elements (with_element R set x) xs y in
      let here = Contains-with_element set x y in (
        λ m. elim (later.0 m) [
          | inl n ↦ elim (here.0 n) [
            | inl k ↦ inl k
            | inr same ↦ inr (subst (λ z. Contains (x ∷ xs) z) same (Contains-first x xs))
          ]
          | inr n ↦ inr (Contains-later x xs y n)
        ],
        λ h. elim h [
          | inl m ↦ later.1 (inl (here.1 (inl m)))
          | inr n ↦ elim (Contains-cons_cases x xs y n) [ inl same ↦ later.1 (inl (here.1 (inr same))) | inr k ↦ later.1 (inr k) ]
        ],
      )

  -- ---- it rises

  put_sorted : (order : Ordering) (x first : X) (rest more : List X) → R first x ≡ order → IsStrictlySortedBy R (first ∷ rest)
      → IsStrictlySortedBy R more → ((y : X) → Contains more y → Contains rest y ⊎ (x ≡ y)) → IsStrictlySortedBy R (put order x first rest more)
  unfolding IsStrictlySortedBy
  put_sorted Less x first rest more e s t m = (
    above_all first more (λ y inside. elim (m y inside) [
      | inl there ↦ Less-from_later o first rest y s there
      | inr same ↦ subst (λ z. R first z ≡ Less) same e
    ]),
    t,
  )
  put_sorted Equal x first rest more e s t m = s
  put_sorted Greater x first rest more e s t m =
      let less : R x first ≡ Less = greater_back first x e in
      ((less, above_all x rest (λ y inside. o.trans x first y less (Less-from_later o first rest y s inside))), s)

  pub sorted-with_element : (xs : List X) (x : X) → IsStrictlySortedBy R xs → IsStrictlySortedBy R (with_element R xs x)
  unfolding IsStrictlySortedBy
  sorted-with_element [] x s = (tt, tt)
  sorted-with_element (first ∷ rest) x s =
      put_sorted (R first x) x first rest (with_element R rest x) refl s
      (sorted-with_element rest x (sorted_tail R first rest s)) (λ y m. from_with_element rest x y m)

  pub sorted-with_elements : (set xs : List X) → IsStrictlySortedBy R set → IsStrictlySortedBy R (with_elements R set xs)
  sorted-with_elements set [] s = s
  sorted-with_elements set (x ∷ xs) s = sorted-with_elements (with_element R set x) xs (sorted-with_element set x s)

  -- an element that is there changes nothing
  pub with_element_there : (xs : List X) (x : X) → IsStrictlySortedBy R xs → Contains xs x → with_element R xs x ≡ xs
  with_element_there xs x s there =
      same_sorted o (with_element R xs x) xs (sorted-with_element xs x s) s
      (λ y m. elim (from_with_element xs x y m) [ inl n ↦ n | inr same ↦ subst (λ z. Contains xs z) same there ])
      (λ y m. kept_with_element xs x y m)

  -- ---- where it goes

  -- between the elements below it and those above it
  placed : (xs : List X) (x : X) (i : ℕ) → i ≤ length xs → ((k : ℕ) (d : X) → k < i → R (get_or xs k d) x ≡ Less)
      → ((k : ℕ) (d : X) → i ≤ k → k < length xs → R (get_or xs k d) x ≡ Greater) → with_element R xs x ≡ take i xs ++ x ∷ drop i xs
  placed [] x zero low before after = refl
  placed [] x (suc i) low before after = absurd (omega arith)
  placed (y ∷ ys) x zero low before after =
      ap (λ order. put order x y ys (with_element R ys x)) (after 0 y (omega arith) (omega arith))
  placed (y ∷ ys) x (suc i) low before after =
      ap (λ order. put order x y ys (with_element R ys x)) (before 0 y (omega arith))
      ∙ ap (λ rest. y ∷ rest) (placed ys x i (omega arith) (λ k d l. before (suc k) d (omega arith)) (λ k d l h. after (suc k) d (omega arith) (omega arith)))

  -- a binary search finds the place
  pub with_element_at : (xs : List X) (x : X) (i : ℕ) → IsStrictlySortedBy R xs → i ≤ length xs
      → IsBinarySearchResult (λ y. R y x) xs (Err i) → with_element R xs x ≡ insert xs i x
  with_element_at xs x i s low found =
      let parts : IsPartitionPoint (λ y. R y x ≡ Less) (λ y. R y x ≡ Greater) xs i = found (not_falling o exact (λ (y : X). y) xs x s) in
      placed xs x i low (λ k d l. parts.0 k d (omega arith) l) (λ k d l h. parts.1 k d l h)

  -- and finds the element where it is there
  pub with_element_found : (xs : List X) (x : X) (i : ℕ) → IsStrictlySortedBy R xs → i < length xs
      → IsBinarySearchResult (λ y. R y x) xs (Ok i) → with_element R xs x ≡ xs
  with_element_found xs x i s low found = with_element_there xs x s (i, low, exact _ _ (found x))

  -- an element that is there is not missed
  pub absent_at : (xs : List X) (x : X) (i : ℕ) → IsStrictlySortedBy R xs → IsBinarySearchResult (λ y. R y x) xs (Err i) → Contains xs x → ⊥
  absent_at xs x i s found there =
      absent o exact (λ (y : X). y) xs x i (found (not_falling o exact (λ (y : X). y) xs x s)) (subst (λ ys. Contains ys x) (sym (map-id xs)) there)
