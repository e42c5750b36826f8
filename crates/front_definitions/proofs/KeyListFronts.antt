-- Lists of keys and their first elements: by recursion on the depth, the first key that differs decides both comparisons, or stands
-- after the fronts, which are then the same.
use Rattle.std.proofs.Common.{◌≡◌, ◌≢◌, ◌⊎◌, inl, inr, ℕ, zero, suc, List, [], ◌∷◌, take, refl, sym, ap, ◌∙◌, subst}
use Rattle.std.specs.declared.cmp.Ordering.{Ordering}
use Rattle.std.specs.declared.cmp.Ordering.TheVariants.{Less, Equal, Greater}
use Rattle.std.specs.Ordering.{ordering_then}
use Rattle.std.specs.Cmp.Lexicographic.{slice_cmp}
use Rattle.std.proofs.lemmas.Cmp.{lists_total}
use Rattle.lexicon_definitions.specs.Lexicons.{RuleSet}
use Rattle.segmentation_definitions.specs.Derivations.{Step}
use Rattle.segmentation_definitions.specs.Listings.{Key, keys_of, compare_keys, compare_key_lists, compare_answers}
use Rattle.segmentation_definitions.proofs.KeyLists.{compare_keys_total, compare_keys_exact, compare_key_lists_exact}
use Rattle.list_laws.proofs.Orderings.{less_then_cases}
use Rattle.list_laws.proofs.Sorted.{not_Less-itself, not_Less-both}
use Rattle.front_definitions.specs.Fronts.{front_of}

not_greater_cases : (order : Ordering) → order ≢ Greater → (order ≡ Less) ⊎ (order ≡ Equal)
not_greater_cases Less not = inl refl
not_greater_cases Equal not = inr refl
not_greater_cases Greater not = absurd (not refl)

-- after a key that is tied, the rest decides
rest_decides : (x y : Key) (xs ys : List Key) → compare_keys x y ≡ Equal → slice_cmp compare_keys (x ∷ xs) (y ∷ ys) ≡ slice_cmp compare_keys xs ys
rest_decides x y xs ys equal = ap (λ order. ordering_then order (slice_cmp compare_keys xs ys)) equal

first_decides : (x y : Key) (xs ys : List Key) → compare_keys x y ≡ Less → slice_cmp compare_keys (x ∷ xs) (y ∷ ys) ≡ Less
first_decides x y xs ys less = ap (λ order. ordering_then order (slice_cmp compare_keys xs ys)) less

-- lists with a smaller front are smaller
pub less_by_front : (depth : ℕ) (left right : List Key) → compare_key_lists (take depth left) (take depth right) ≡ Less
    → compare_key_lists left right ≡ Less
less_by_front zero left right less = cc
less_by_front (suc depth) [] [] less = less
less_by_front (suc depth) [] (y ∷ right) less = refl
less_by_front (suc depth) (x ∷ left) [] less = less
less_by_front (suc depth) (x ∷ left) (y ∷ right) less =
    elim (less_then_cases (compare_keys x y) (slice_cmp compare_keys (take depth left) (take depth right)) less) [
      | inl before ↦ first_decides x y left right before
      | inr (equal, later) ↦ rest_decides x y left right equal ∙ less_by_front depth left right later
    ]

-- the smaller of two lists with different fronts has the smaller one
pub front_less : (depth : ℕ) (left right : List Key) → compare_key_lists left right ≡ Less → take depth left ≢ take depth right
    → compare_key_lists (take depth left) (take depth right) ≡ Less
front_less zero left right less others = absurd (others refl)
front_less (suc depth) [] [] less others = less
front_less (suc depth) [] (y ∷ right) less others = refl
front_less (suc depth) (x ∷ left) [] less others = less
front_less (suc depth) (x ∷ left) (y ∷ right) less others =
    elim (less_then_cases (compare_keys x y) (slice_cmp compare_keys left right) less) [
      | inl before ↦ first_decides x y (take depth left) (take depth right) before
      | inr (equal, later) ↦
          let same : x ≡ y = compare_keys_exact x y equal in
          rest_decides x y (take depth left) (take depth right) equal
          ∙ front_less depth left right later (λ taken. others (ap (λ keys. x ∷ keys) taken ∙ ap (λ key. key ∷ take depth right) same))
    ]

-- the front of a list is no greater than that of a list that comes after it
pub front_not_greater : (depth : ℕ) (left right : List Key) → compare_key_lists left right ≢ Greater
    → compare_key_lists (take depth left) (take depth right) ≢ Greater
front_not_greater zero left right not greater = cc
front_not_greater (suc depth) [] [] not greater = not greater
front_not_greater (suc depth) [] (y ∷ right) not greater = cc
front_not_greater (suc depth) (x ∷ left) [] not greater = not greater
front_not_greater (suc depth) (x ∷ left) (y ∷ right) not greater =
    by_first (compare_keys x y) (slice_cmp compare_keys left right) (slice_cmp compare_keys (take depth left) (take depth right)) not
    (front_not_greater depth left right) greater
  where
    by_first : (order rest front_rest : Ordering) → ordering_then order rest ≢ Greater → (rest ≢ Greater → front_rest ≢ Greater)
        → ordering_then order front_rest ≢ Greater
    by_first Less rest front_rest not later greater = cc
    by_first Equal rest front_rest not later greater = later not greater
    by_first Greater rest front_rest not later greater = not greater

module _ (rules : RuleSet) (depth : ℕ) where
  pub front_not_less : (left right : List Step) → compare_answers rules left right ≢ Greater
      → compare_key_lists (front_of rules depth left) (front_of rules depth right) ≢ Greater
  front_not_less left right = front_not_greater depth (keys_of rules left) (keys_of rules right)

  -- lists of which neither is greater than the other are the same
  pub same_if_neither : (left right : List Key) → compare_key_lists left right ≢ Greater → compare_key_lists right left ≢ Greater → left ≡ right
  same_if_neither left right not other = elim (not_greater_cases (compare_key_lists left right) not) [
    | inr equal ↦ compare_key_lists_exact left right equal
    | inl less ↦ elim (not_greater_cases (compare_key_lists right left) other) [
      | inr equal ↦ sym (compare_key_lists_exact right left equal)
      | inl back ↦ absurd (not_Less-both (lists_total compare_keys_total) left right less back)
    ]
  ]

  pub together : (first middle last : List Step) → compare_answers rules first middle ≢ Greater → compare_answers rules middle last ≢ Greater
      → front_of rules depth first ≡ front_of rules depth last → front_of rules depth middle ≡ front_of rules depth first
  together first middle last before after same =
      let back = subst (λ front. compare_key_lists (front_of rules depth middle) front ≢ Greater) (sym same) (front_not_less middle last after) in
      same_if_neither (front_of rules depth middle) (front_of rules depth first) back (front_not_less first middle before)

  pub smaller_front : (left right : List Step) → compare_key_lists (front_of rules depth left) (front_of rules depth right) ≡ Less
      → (compare_answers rules left right ≡ Less) × (front_of rules depth left ≢ front_of rules depth right)
  smaller_front left right less = (
    less_by_front depth (keys_of rules left) (keys_of rules right) less,
    λ same. not_Less-itself (lists_total compare_keys_total) (front_of rules depth right)
        (subst (λ front. compare_key_lists front (front_of rules depth right) ≡ Less) same less),
  )
