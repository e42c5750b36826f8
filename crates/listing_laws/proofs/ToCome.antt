-- What is still to come is told by induction on the branches taken: a path makes a later branch at one of them, or goes on
-- after all of them.
use Rattle.std.proofs.Common.{◌≡◌, ◌⊎◌, inl, inr, List, [], ◌∷◌, ◌++◌, refl, sym, ap, subst}
use Rattle.std.specs.Cmp.Lexicographic.{slice_cmp}
use Rattle.std.specs.Ordering.{ordering_then}
use Rattle.std.specs.declared.cmp.Ordering.{Ordering}
use Rattle.std.specs.declared.cmp.Ordering.TheVariants.{Less, Equal}
use Rattle.listing_laws.specs.Stacks.{From, After, IsToCome}

module _ {Branch : Type 0} (compare : Branch → Branch → Ordering) where
  -- only the branches with which a path goes on after those taken matter
  pub change_left : (taken : List Branch) (IsLeft Others : Branch → Type 0) (path : List Branch)
      → ((branch : Branch) (rest : List Branch) → path ≡ taken ++ branch ∷ rest → IsLeft branch → Others branch)
      → IsToCome compare taken IsLeft path → IsToCome compare taken Others path
  change_left [] IsLeft Others [] change none = none
  change_left [] IsLeft Others (branch ∷ path) change left = change branch path refl left
  change_left (first ∷ taken) IsLeft Others [] change none = none
  change_left (first ∷ taken) IsLeft Others (branch ∷ path) change (inl less) = inl less
  change_left (first ∷ taken) IsLeft Others (branch ∷ path) change (inr (same, later)) =
      inr (same, change_left taken IsLeft Others path (λ d rest e left. change d rest (cc) left) later)

  -- where the last branch was taken, what is to come makes a later one there or before, or goes on after it
  pub last_cases : (taken : List Branch) (last : Branch) (IsLeft : Branch → Type 0) (path : List Branch)
      → IsToCome compare (taken ++ last ∷ []) IsLeft path
      → IsToCome compare taken (After compare last) path
      ⊎ ((branch : Branch) × (rest : List Branch) × (path ≡ taken ++ last ∷ branch ∷ rest) × IsLeft branch)
  last_cases [] last IsLeft [] none = absurd none
  last_cases [] last IsLeft (branch ∷ path) (inl less) = inl less
  last_cases [] last IsLeft (branch ∷ []) (inr (same, none)) = absurd none
  last_cases [] last IsLeft (branch ∷ d ∷ path) (inr (same, left)) = inr (d, path, ap (λ c. c ∷ d ∷ path) (sym same), left)
  last_cases (first ∷ taken) last IsLeft [] none = absurd none
  last_cases (first ∷ taken) last IsLeft (branch ∷ path) (inl less) = inl (inl less)
  last_cases (first ∷ taken) last IsLeft (branch ∷ path) (inr (same, later)) = elim (last_cases taken last IsLeft path later) [
    | inl before ↦ inl (inr (same, before))
    | inr (d, rest, e, left) ↦ inr (d, rest, cc, left)
  ]

  -- a later branch than the last one taken, there or before, is still to come
  pub to_come_before : (taken : List Branch) (last : Branch) (IsLeft : Branch → Type 0) (path : List Branch)
      → IsToCome compare taken (After compare last) path → IsToCome compare (taken ++ last ∷ []) IsLeft path
  to_come_before [] last IsLeft [] none = none
  to_come_before [] last IsLeft (branch ∷ path) less = inl less
  to_come_before (first ∷ taken) last IsLeft [] none = none
  to_come_before (first ∷ taken) last IsLeft (branch ∷ path) (inl less) = inl less
  to_come_before (first ∷ taken) last IsLeft (branch ∷ path) (inr (same, later)) =
      inr (same, to_come_before taken last IsLeft path later)

  -- what goes on with a branch that is left is still to come
  pub to_come_onward : (taken : List Branch) (IsLeft : Branch → Type 0) (branch : Branch) (rest : List Branch)
      → IsLeft branch → IsToCome compare taken IsLeft (taken ++ branch ∷ rest)
  to_come_onward [] IsLeft branch rest left = left
  to_come_onward (first ∷ taken) IsLeft branch rest left = inr (refl, to_come_onward taken IsLeft branch rest left)

  -- from a branch on: after it, or with it
  pub from_cases : (taken : List Branch) (first : Branch) (path : List Branch) → IsToCome compare taken (From compare first) path
      → IsToCome compare taken (After compare first) path ⊎ ((rest : List Branch) × (path ≡ taken ++ first ∷ rest))
  from_cases [] first [] none = absurd none
  from_cases [] first (branch ∷ path) (inl same) = inr (path, ap (λ c. c ∷ path) (sym same))
  from_cases [] first (branch ∷ path) (inr less) = inl less
  from_cases (x ∷ taken) first [] none = absurd none
  from_cases (x ∷ taken) first (branch ∷ path) (inl less) = inl (inl less)
  from_cases (x ∷ taken) first (branch ∷ path) (inr (same, later)) = elim (from_cases taken first path later) [
    | inl before ↦ inl (inr (same, before))
    | inr (rest, e) ↦ inr (rest, cc)
  ]

  -- what makes a later branch than the last one taken, there or before, comes after whatever goes on with that one
  pub above_taken : (tied : (branch : Branch) → compare branch branch ≡ Equal) (taken : List Branch) (last : Branch) (more path : List Branch)
      → IsToCome compare taken (After compare last) path → slice_cmp compare (taken ++ last ∷ more) path ≡ Less
  above_taken tied [] last more [] none = absurd none
  above_taken tied [] last more (branch ∷ path) less = ap (λ order. ordering_then order (slice_cmp compare more path)) less
  above_taken tied (first ∷ taken) last more [] none = absurd none
  above_taken tied (first ∷ taken) last more (branch ∷ path) (inl less) =
      ap (λ order. ordering_then order (slice_cmp compare (taken ++ last ∷ more) path)) less
  above_taken tied (first ∷ taken) last more (branch ∷ path) (inr (same, later)) =
      let here : compare first branch ≡ Equal = subst (λ c. compare first c ≡ Equal) same (tied first) in
      let rest = above_taken tied taken last more path later in
      rw here rest
