-- Strictly sorted lists and what they contain: the order puts each element before the later ones, so two such lists with
-- the same elements have the same first one, and by induction the same rest. It is enough that an element of the one that
-- the other has not comes after the other, which is then as long as the one: then too neither can have another first one.
use Rattle.std.proofs.Common.{◌≡◌, ℕ, zero, suc, ◌≤◌, ◌⊎◌, ◌↔◌, inl, inr, List, [], ◌∷◌, ◌++◌, length, take, drop, refl, sym, ◌∙◌, ap, subst, arith}
use Rattle.std.specs.List.{All, Contains}
use Rattle.std.specs.List.Sorted.{IsStrictlySortedBy}
use Rattle.std.specs.Cmp.{IsTotalOrder}
use Rattle.std.specs.declared.cmp.Ordering.{Ordering}
use Rattle.std.specs.declared.cmp.Ordering.TheVariants.{Less}
use Rattle.std.proofs.lemmas.Cmp.{tied_itself}
use Rattle.std.proofs.lemmas.List.{append_assoc, take-append-drop}
use Rattle.std.proofs.lemmas.List.Elements.{All-from_recursion, recursion_from_All, All-nil, All-cons, All-head, All-tail, All-append, All-weaker, All-contains, All-contains_itself, Contains-append_left, Contains-append_right, Contains-append_cases}
use Rattle.std.proofs.lemmas.Map.Keys.{sorted_head, sorted_tail}

-- the first element is an element
pub Contains-first : {X : Type 0} (x : X) (xs : List X) → Contains (x ∷ xs) x
Contains-first x xs = (0, omega arith, refl)

-- a later element is an element
pub Contains-later : {X : Type 0} (x : X) (xs : List X) (y : X) → Contains xs y → Contains (x ∷ xs) y
Contains-later x xs y m = Contains-append_right (x ∷ []) xs y m

-- an element is the first one or a later one
pub Contains-cons_cases : {X : Type 0} (x : X) (xs : List X) (y : X) → Contains (x ∷ xs) y → (x ≡ y) ⊎ Contains xs y
Contains-cons_cases x xs y (zero, l, e) = inl e
Contains-cons_cases x xs y (suc k, l, e) = inr (k, omega arith, e)

-- the empty list has no element
pub not_Contains-nil : {X : Type 0} (x : X) → Contains [] x → ⊥
not_Contains-nil x (k, l, e) = omega arith

-- an element of a list's front is an element
pub Contains-from_take : {X : Type 0} (count : ℕ) (xs : List X) (x : X) → Contains (take count xs) x → Contains xs x
Contains-from_take count xs x m =
    subst (λ ys. Contains ys x) (take-append-drop count xs) (Contains-append_left (take count xs) (drop count xs) x m)

-- an element after a list's front is an element
pub Contains-from_drop : {X : Type 0} (count : ℕ) (xs : List X) (x : X) → Contains (drop count xs) x → Contains xs x
Contains-from_drop count xs x m =
    subst (λ ys. Contains ys x) (take-append-drop count xs) (Contains-append_right (take count xs) (drop count xs) x m)

-- an element is one of the list's front or after it
pub Contains-parts : {X : Type 0} (count : ℕ) (xs : List X) (x : X) → Contains xs x → Contains (take count xs) x ⊎ Contains (drop count xs) x
Contains-parts count xs x m =
    Contains-append_cases (take count xs) (drop count xs) x (subst (λ ys. Contains ys x) (sym (take-append-drop count xs)) m)

-- what holds of whatever a list contains holds of each element
pub All-from_Contains : {X : Type 0} (P : X → Type 0) (xs : List X) → ((x : X) → Contains xs x → P x) → All P xs
All-from_Contains P xs f = All-weaker (Contains xs) P f xs (All-contains_itself xs)

pub sorted_nil : {K : Type 0} (R : K → K → Ordering) → IsStrictlySortedBy R []
unfolding IsStrictlySortedBy
sorted_nil R = tt

-- z is an element of ys, or comes after ys, which is as long as xs at least
abbrev IsInOrAfter : {K : Type 0} (R : K → K → Ordering) (xs ys : List K) (z : K) → Type 0
IsInOrAfter R xs ys z = Contains ys z ⊎ ((length xs ≤ length ys) × All (λ y. R y z ≡ Less) ys)

module _ {K : Type 0} {R : K → K → Ordering} (o : IsTotalOrder R) where
  -- a strictly sorted list has each later element above the first
  pub Less-from_later : (x : K) (xs : List K) (y : K) → IsStrictlySortedBy R (x ∷ xs) → Contains xs y → R x y ≡ Less
  Less-from_later x xs y s m =
      All-contains (λ z. R x z ≡ Less) xs y (All-from_recursion (λ z. R x z ≡ Less) xs (sorted_head R x xs s)) m

  -- nothing is below itself
  pub not_Less-itself : (x : K) → R x x ≡ Less → ⊥
  not_Less-itself x l = let e = tied_itself o x in cc

  -- of two elements one at most is below the other
  pub not_Less-both : (x y : K) → R x y ≡ Less → R y x ≡ Less → ⊥
  not_Less-both x y l m = not_Less-itself x (o.trans x y x l m)

  -- an element above the first one is a later one
  pub later_from_Less : (x : K) (xs : List K) (y : K) → Contains (x ∷ xs) y → R x y ≡ Less → Contains xs y
  later_from_Less x xs y m l =
      elim (Contains-cons_cases x xs y m) [ inl e ↦ absurd (not_Less-itself x (subst (λ z. R x z ≡ Less) (sym e) l)) | inr n ↦ n ]

  -- what is in a strictly sorted list or after it is its first element or above that
  first_or_above : (x : K) (xs : List K) (y : K) (ys : List K) → IsStrictlySortedBy R (y ∷ ys) → IsInOrAfter R (x ∷ xs) (y ∷ ys) x
      → (y ≡ x) ⊎ (R y x ≡ Less)
  first_or_above x xs y ys t h =
      elim h [
        | inl m ↦ elim (Contains-cons_cases y ys x m) [ inl e ↦ inl e | inr n ↦ inr (Less-from_later y ys x t n) ]
        | inr (l, b) ↦ inr (All-head (λ w. R w x ≡ Less) y ys b)
      ]

  -- what is above the first element of two lists and in the second or after it is so without that element too
  later_or_after : (x : K) (xs ys : List K) (z : K) → R x z ≡ Less → IsInOrAfter R (x ∷ xs) (x ∷ ys) z → IsInOrAfter R xs ys z
  later_or_after x xs ys z l h =
      elim h [
        | inl m ↦ inl (later_from_Less x ys z m l)
        | inr (k, b) ↦ inr (omega arith, All-tail (λ w. R w z ≡ Less) x ys b)
      ]

  -- two strictly sorted lists are the same where each element of the one is in the other or after it
  pub same_fronts : (xs ys : List K) → IsStrictlySortedBy R xs → IsStrictlySortedBy R ys
      → ((z : K) → Contains xs z → IsInOrAfter R xs ys z) → ((z : K) → Contains ys z → IsInOrAfter R ys xs z) → xs ≡ ys
  same_fronts [] [] s t f g = refl
  same_fronts [] (y ∷ ys) s t f g =
      absurd (elim (g y (Contains-first y ys)) [ inl m ↦ not_Contains-nil y m | inr (l, b) ↦ omega arith ])
  same_fronts (x ∷ xs) [] s t f g =
      absurd (elim (f x (Contains-first x xs)) [ inl m ↦ not_Contains-nil x m | inr (l, b) ↦ omega arith ])
  same_fronts (x ∷ xs) (y ∷ ys) s t f g =
      let e : x ≡ y = elim (first_or_above x xs y ys t (f x (Contains-first x xs))) [
        | inl e ↦ sym e
        | inr l ↦ elim (first_or_above y ys x xs s (g y (Contains-first y ys))) [ inl e ↦ e | inr m ↦ absurd (not_Less-both y x l m) ]
      ] in
      let t' : IsStrictlySortedBy R (x ∷ ys) = subst (λ w. IsStrictlySortedBy R (w ∷ ys)) (sym e) t in
      let f' = λ (z : K) (m : Contains xs z). later_or_after x xs ys z (Less-from_later x xs z s m)
      (subst (λ w. IsInOrAfter R (x ∷ xs) (w ∷ ys) z) (sym e) (f z (Contains-later x xs z m))) in
      let g' = λ (z : K) (m : Contains ys z). later_or_after x ys xs z (Less-from_later x ys z t' m)
      (subst (λ w. IsInOrAfter R (w ∷ ys) (x ∷ xs) z) (sym e) (g z (Contains-later y ys z m))) in
      let same : xs ≡ ys = same_fronts xs ys (sorted_tail R x xs s) (sorted_tail R x ys t') f' g' in
      cc

  -- two strictly sorted lists with the same elements are the same
  pub same_sorted : (xs ys : List K) → IsStrictlySortedBy R xs → IsStrictlySortedBy R ys
      → ((z : K) → Contains xs z → Contains ys z) → ((z : K) → Contains ys z → Contains xs z) → xs ≡ ys
  same_sorted xs ys s t f g = same_fronts xs ys s t (λ z m. inl (f z m)) (λ z m. inl (g z m))

  -- each element of a later part of a strictly sorted list comes after the part before it
  pub following_front : (front later : List K) (y : K) → IsStrictlySortedBy R (front ++ later) → Contains later y
      → All (λ x. R x y ≡ Less) front
  following_front [] later y s m = All-nil (λ x. R x y ≡ Less)
  following_front (x ∷ front) later y s m =
      All-cons (λ x. R x y ≡ Less) x front (Less-from_later x (front ++ later) y s (Contains-append_right front later y m))
      (following_front front later y (sorted_tail R x (front ++ later) s) m)

  -- nothing is both in a list and after it
  pub not_after : (xs : List K) (x : K) → Contains xs x → All (λ y. R y x ≡ Less) xs → ⊥
  not_after xs x m b = not_Less-itself x (All-contains (λ y. R y x ≡ Less) xs x b m)

  -- a front of a strictly sorted list is strictly sorted
  pub sorted_front : (front later : List K) → IsStrictlySortedBy R (front ++ later) → IsStrictlySortedBy R front
  unfolding IsStrictlySortedBy
  sorted_front [] later s = tt
  sorted_front (x ∷ front) later s =
      let above = λ (y : K) (m : Contains front y). Less-from_later x (front ++ later) y s (Contains-append_left front later y m) in (
        recursion_from_All (λ y. R x y ≡ Less) front (All-from_Contains (λ y. R x y ≡ Less) front above),
        sorted_front front later (sorted_tail R x (front ++ later) s),
      )

  -- two strictly sorted lists, each element of the second after the first, are together strictly sorted
  pub sorted_append : (front later : List K) → IsStrictlySortedBy R front → IsStrictlySortedBy R later
      → ((y : K) → Contains later y → All (λ x. R x y ≡ Less) front) → IsStrictlySortedBy R (front ++ later)
  unfolding IsStrictlySortedBy
  sorted_append [] later s t b = t
  sorted_append (x ∷ front) later s t b =
      let above = All-from_Contains (λ y. R x y ≡ Less) later (λ y m. All-head (λ w. R w y ≡ Less) x front (b y m)) in
      let here = All-from_recursion (λ y. R x y ≡ Less) front (sorted_head R x front s) in (
        recursion_from_All (λ y. R x y ≡ Less) (front ++ later) (All-append (λ y. R x y ≡ Less) front later here above),
        sorted_append front later (sorted_tail R x front s) t (λ y m. All-tail (λ w. R w y ≡ Less) x front (b y m)),
      )

  -- a later part of a strictly sorted list is strictly sorted
  pub sorted_later : (front later : List K) → IsStrictlySortedBy R (front ++ later) → IsStrictlySortedBy R later
  sorted_later [] later s = s
  sorted_later (x ∷ front) later s = sorted_later front later (sorted_tail R x (front ++ later) s)

  -- each element after x is above x
  pub Less-from_after : (front : List K) (x : K) (later : List K) (y : K) → IsStrictlySortedBy R (front ++ x ∷ later)
      → Contains later y → R x y ≡ Less
  Less-from_after front x later y s m = Less-from_later x later y (sorted_later front (x ∷ later) s) m

  -- each element above x is after x
  pub following_from_Less : (front : List K) (x : K) (later : List K) (y : K) → IsStrictlySortedBy R (front ++ x ∷ later)
      → Contains (front ++ x ∷ later) y → R x y ≡ Less → Contains later y
  following_from_Less [] x later y s m l = later_from_Less x later y m l
  following_from_Less (z ∷ front) x later y s m l =
      let here : R z x ≡ Less = Less-from_later z (front ++ x ∷ later) x s (Contains-append_right front (x ∷ later) x (Contains-first x later)) in
      elim (Contains-cons_cases z (front ++ x ∷ later) y m) [
        | inl e ↦ absurd (not_Less-both z x here (subst (λ w. R x w ≡ Less) (sym e) l))
        | inr n ↦ following_from_Less front x later y (sorted_tail R z (front ++ x ∷ later) s) n l
      ]

  -- where x is the last of the first count elements, those above x are after them, and no others are
  pub Contains-drop : (count : ℕ) (xs front : List K) (x y : K) → IsStrictlySortedBy R xs → take count xs ≡ front ++ x ∷ []
      → Contains (drop count xs) y ↔ (Contains xs y × (R x y ≡ Less))
  Contains-drop count xs front x y s e =
      let left = drop count xs in
      let cut : xs ≡ front ++ x ∷ left = sym (take-append-drop count xs) ∙ ap (λ zs. zs ++ left) e ∙ append_assoc front (x ∷ []) left in
      let t = subst (IsStrictlySortedBy R) cut s in (
        λ m. (Contains-from_drop count xs y m, Less-from_after front x left y t m),
        λ (m, l). following_from_Less front x left y t (subst (λ zs. Contains zs y) cut m) l,
      )
