-- The letters of a set: they rise, there are few, and a set with the same letters as a rising list has that list.
use Rattle.std.proofs.Common.{◌≡◌, ℕ, ◌≤◌, ◌<◌, ◌↔◌, ◌⊎◌, inl, inr, List, [], ◌∷◌, ◌++◌, length, map, sym, ◌∙◌, subst, arith}
use Rattle.std.specs.Prelude.{Contains}
use Rattle.std.specs.Ordering.{nat_cmp}
use Rattle.std.specs.List.Sorted.{IsStrictlySortedBy}
use Rattle.std.proofs.lemmas.Cmp.{nat_cmp_total}
use Rattle.std.specs.Ordering.{on}
use Rattle.std.proofs.lemmas.List.{get_or-map, length-map, map_push}
use Rattle.std.proofs.lemmas.List.Elements.{Contains-append_left, Contains-push, Contains-push_cases}
use Rattle.std.proofs.lemmas.Map.Keys.{Less-from_sorted}
use Rattle.list_laws.proofs.Sorted.{same_sorted}
use Rattle.shared_trie.proofs.DeltaLists.{some_element, sorted_from_pairs}
use Rattle.shared_trie.specs.LetterSets.{letters_in}
use Rattle.shared_trie.specs.declared.letter_set.LetterSet.{LetterSet}
use Rattle.shared_trie.proofs.SetPlaces.{places_few, places_rise}

-- they rise
pub letters_rise : (set : LetterSet) → IsStrictlySortedBy nat_cmp (letters_in set)
unfolding letters_in
letters_rise set = places_rise 64 0 set.bits

-- there are few
pub few_letters : (set : LetterSet) → length (letters_in set) ≤ 64
unfolding letters_in
few_letters set = places_few 64 0 set.bits

-- a rising list with the same letters
pub same_letters : (set : LetterSet) (letters : List ℕ) → IsStrictlySortedBy nat_cmp letters
    → ((letter : ℕ) → Contains (letters_in set) letter ↔ Contains letters letter) → letters_in set ≡ letters
same_letters set letters rising same =
    same_sorted nat_cmp_total (letters_in set) letters (letters_rise set) rising (λ z. (same z).0) (λ z. (same z).1)

-- the letters of children that rise by their letters, rise
pub letters_of_children : (children : List (ℕ × ℕ)) → IsStrictlySortedBy (on (λ (child : ℕ × ℕ). child.0) nat_cmp) children
    → IsStrictlySortedBy nat_cmp (map (λ (child : ℕ × ℕ). child.0) children)
letters_of_children children rising =
    let letter : ℕ × ℕ → ℕ = λ child. child.0 in
    sorted_from_pairs nat_cmp (map letter children) (λ i j d l h.
    let long = length-map children letter in
    let low : j < length children = omega (arith, h, long) in
    let any = some_element children j low in
    let first = get_or-map letter children i any d (omega (arith, l, low)) in
    let second = get_or-map letter children j any d low in
    (λ k. nat_cmp (first k) (second k)) ∙ Less-from_sorted (on letter nat_cmp) children i j any rising l low)

-- one child more
pub letters_more : (set new : LetterSet) (children : List (ℕ × ℕ)) (child : ℕ × ℕ)
    → ((other : ℕ) → Contains (letters_in new) other ↔ (Contains (letters_in set) other ⊎ (other ≡ child.0)))
    → ((other : ℕ) → Contains (letters_in set) other ↔ Contains (map (λ (c : ℕ × ℕ). c.0) children) other)
    → (other : ℕ) → Contains (letters_in new) other ↔ Contains (map (λ (c : ℕ × ℕ). c.0) (children ++ child ∷ [])) other
letters_more set new children child besides so_far other =
    let letters = map (λ (c : ℕ × ℕ). c.0) children in
    let pushed : map (λ (c : ℕ × ℕ). c.0) (children ++ child ∷ []) ≡ letters ++ child.0 ∷ [] = map_push (λ (c : ℕ × ℕ). c.0) children child in (
      λ has. subst (λ (ls : List ℕ). Contains ls other) (sym pushed) (elim ((besides other).0 has) [
        | inl old ↦ Contains-append_left letters (child.0 ∷ []) other ((so_far other).0 old)
        | inr same ↦ subst (Contains (letters ++ child.0 ∷ [])) (sym same) (Contains-push letters child.0)
      ]),
      λ has. (besides other).1 (elim (Contains-push_cases letters child.0 other (subst (λ (ls : List ℕ). Contains ls other) pushed has)) [
        | inl old ↦ inl ((so_far other).1 old)
        | inr same ↦ inr (sym same)
      ]),
    )
