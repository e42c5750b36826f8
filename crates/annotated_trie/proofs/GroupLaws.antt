-- Groups take up one place after another; what is gathered from groups is what they have, and stays so when it is sorted and
-- repetitions go.
use Rattle.std.proofs.Common.{◌≡◌, ℕ, ◌+◌, ◌<◌, ◌≤◌, ◌⊎◌, ◌↔◌, inl, inr, List, [], ◌∷◌, ◌++◌, length, max, get_or, set, eqb, refl, sym, ◌∙◌, ap, subst, arith}
use Rattle.std.specs.Global.{Vec}
use Rattle.std.specs.Prelude.{All, Contains, IsPermutation}
use Rattle.std.specs.Cmp.{unsigned_ties}
use Rattle.std.specs.declared.cmp.Ordering.TheVariants.{Less}
use Rattle.std.specs.List.{dedup}
use Rattle.std.specs.List.Sorted.{IsSorted, IsStrictlySortedBy}
use Rattle.std.specs.Ordering.{nat_cmp}
use Rattle.std.proofs.lemmas.Bool.{cases_lt, cases_eq}
use Rattle.std.proofs.lemmas.Bool.Decides.{nat_tests}
use Rattle.std.proofs.lemmas.Cmp.{nat_cmp_total}
use Rattle.std.proofs.lemmas.List.{get_or_append_left, get_or_push, length_push}
use Rattle.std.proofs.lemmas.List.Elements.{All-append, All-cons, All-nil, All-weaker, Contains-append_left, Contains-append_right, Contains-append_cases, Contains-push, Contains-push_cases}
use Rattle.std.proofs.lemmas.List.Kept.{Contains-dedup_nat, Contains-from_dedup, IsStrictlySortedBy-dedup}
use Rattle.std.proofs.lemmas.List.Sorted.{Contains-permutation, IsPermutation-sym}
use Rattle.list_laws.proofs.Sorted.{All-from_Contains, Contains-cons_cases, not_Contains-nil, sorted_append, sorted_nil}
use Rattle.annotated_trie.specs.Suffixes.{AreGroups, AreListsFrom, IsInGroups, IsListFrom}
use Rattle.annotated_trie.specs.Views.{IsMostRules, list_at}
use Rattle.annotated_trie.proofs.ListPlaces.{list_at-append, list_at-push, list_at-set_other, list_at-set_same}

-- the number stands at the place, counted from 1
abbrev StandsAt : List ℕ → ℕ → ℕ → Type 0
StandsAt numbers number place = (k : ℕ) × (place ≡ k + 1) × (k < length numbers) × (get_or numbers k 0 ≡ number)

-- a number that stood there
StandsAt-append : (numbers : List ℕ) (more number place : ℕ) → StandsAt numbers number place → StandsAt (numbers ++ more ∷ []) number place
StandsAt-append numbers more number place (k, e, low, is) =
    let long = length_push numbers more in
    (k, e, omega (arith, low, long), get_or_append_left numbers (more ∷ []) 0 k low ∙ is)

-- a number stood there, or it is the last
StandsAt-cases : (numbers : List ℕ) (last number place : ℕ) → StandsAt (numbers ++ last ∷ []) number place
    → StandsAt numbers number place ⊎ ((place ≡ length numbers + 1) × (last ≡ number))
StandsAt-cases numbers last number place (k, e, low, is) =
    let long = length_push numbers last in
    elim (cases_lt k (length numbers)) [
      | inl l ↦ inl (k, e, l, sym (get_or_append_left numbers (last ∷ []) 0 k l) ∙ is)
      | inr g ↦
          let here : length numbers ≡ k = omega (arith, g, low, long) in
          inr (omega (arith, e, here), sym (get_or_push numbers last 0 k here) ∙ is)
    ]

-- the last place of the last number
StandsAt-last : (numbers : List ℕ) (last : ℕ) → StandsAt (numbers ++ last ∷ []) last (length numbers + 1)
StandsAt-last numbers last =
    let long = length_push numbers last in
    (length numbers, refl, omega (arith, long), get_or_push numbers last 0 (length numbers) refl)

-- a number that is less compares as less
Less_from_lt : (x y : ℕ) → x < y → nat_cmp x y ≡ Less
Less_from_lt x y l = grind (arith, nat_tests)

-- one number alone rises
one_rises : (x : ℕ) → IsStrictlySortedBy nat_cmp (x ∷ [])
unfolding IsStrictlySortedBy
one_rises x = (tt, tt)

-- at first no group has a place
pub AreGroups-none : (groups : List (Vec ℕ)) → ((number : ℕ) → list_at groups number ≡ []) → AreGroups [] groups
AreGroups-none groups none =
    record {
      each = λ number place. (
        λ (has : Contains (list_at groups number) place). absurd (not_Contains-nil place (subst (λ (xs : List ℕ). Contains xs place) (none number) has)),
        λ (stands : StandsAt [] number place). absurd (omega (arith, stands.2)),
      );
      rising = λ number. subst (IsStrictlySortedBy nat_cmp) (sym (none number)) (sorted_nil nat_cmp);
    }

-- one number more is put into its group
pub AreGroups-push : (numbers : List ℕ) (last : ℕ) (groups : List (Vec ℕ)) (longer : Vec ℕ) → AreGroups numbers groups → last < length groups
    → longer.items ≡ list_at groups last ++ (length numbers + 1) ∷ [] → AreGroups (numbers ++ last ∷ []) (set groups last longer)
AreGroups-push numbers last groups longer are low e =
    let place_of_last = length numbers + 1 in
    record {
      each = λ number place. elim (cases_eq number last) [
        | inl same ↦
            let here : list_at (set groups last longer) number ≡ list_at groups last ++ place_of_last ∷ [] =
            ap (list_at (set groups last longer)) same ∙ list_at-set_same groups last longer low ∙ e in (
              λ (has : Contains (list_at (set groups last longer) number) place).
                  elim (Contains-push_cases (list_at groups last) place_of_last place (subst (λ (xs : List ℕ). Contains xs place) here has)) [
                    | inl before ↦ StandsAt-append numbers last number place (subst (λ (n : ℕ). StandsAt numbers n place) (sym same) ((are.each last place).0 before))
                    | inr is ↦ subst (λ (n : ℕ). StandsAt (numbers ++ last ∷ []) n place) (sym same) (subst (StandsAt (numbers ++ last ∷ []) last) is (StandsAt-last numbers last))
                  ],
              λ (stands : StandsAt (numbers ++ last ∷ []) number place).
                  subst (λ (xs : List ℕ). Contains xs place) (sym here) (elim (StandsAt-cases numbers last number place stands) [
                    | inl before ↦ Contains-append_left (list_at groups last) (place_of_last ∷ []) place ((are.each last place).1 (subst (λ (n : ℕ). StandsAt numbers n place) same before))
                    | inr is ↦ subst (Contains (list_at groups last ++ place_of_last ∷ [])) (sym is.0) (Contains-push (list_at groups last) place_of_last)
                  ]),
            )
        | inr apart ↦
            let here = list_at-set_other groups last number longer apart in (
              λ (has : Contains (list_at (set groups last longer) number) place).
                  StandsAt-append numbers last number place ((are.each number place).0 (subst (λ (xs : List ℕ). Contains xs place) here has)),
              λ (stands : StandsAt (numbers ++ last ∷ []) number place).
                  subst (λ (xs : List ℕ). Contains xs place) (sym here) (elim (StandsAt-cases numbers last number place stands) [
                    | inl before ↦ (are.each number place).1 before
                    | inr is ↦ absurd (apart (sym is.1))
                  ]),
            )
      ];
      rising = λ number. elim (cases_eq number last) [
        | inl same ↦
            let here : list_at (set groups last longer) number ≡ list_at groups last ++ place_of_last ∷ [] =
            ap (list_at (set groups last longer)) same ∙ list_at-set_same groups last longer low ∙ e in
            let after : (y : ℕ) → Contains (place_of_last ∷ []) y → All (λ (x : ℕ). nat_cmp x y ≡ Less) (list_at groups last) =
            λ y among. elim (Contains-cons_cases place_of_last [] y among) [
              | inl is ↦ All-from_Contains (λ (x : ℕ). nat_cmp x y ≡ Less) (list_at groups last) (λ x has.
                  let (k, at, within, _) = (are.each last x).0 has in
                  Less_from_lt x y (omega (arith, at, within, is)))
              | inr none ↦ absurd (not_Contains-nil y none)
            ] in
            subst (IsStrictlySortedBy nat_cmp) (sym here) (sorted_append nat_cmp_total (list_at groups last) (place_of_last ∷ []) (are.rising last) (one_rises place_of_last) after)
        | inr apart ↦ subst (IsStrictlySortedBy nat_cmp) (sym (list_at-set_other groups last number longer apart)) (are.rising number)
      ];
    }

-- one group more is gathered
pub IsInGroups-push : (groups : List (Vec ℕ)) (numbers : List ℕ) (number : ℕ) (old new : List ℕ) → ((place : ℕ) → Contains old place ↔ IsInGroups groups numbers place)
    → new ≡ old ++ list_at groups number → (place : ℕ) → Contains new place ↔ IsInGroups groups (numbers ++ number ∷ []) place
IsInGroups-push groups numbers number old new so_far e place = (
  λ (has : Contains new place). elim (Contains-append_cases old (list_at groups number) place (subst (λ (xs : List ℕ). Contains xs place) e has)) [
    | inl before ↦
        let is = (so_far place).0 before in
        record { number = is.number; among = Contains-append_left numbers (number ∷ []) is.number is.among; has = is.has }
    | inr here ↦ record { number = number; among = Contains-push numbers number; has = here }
  ],
  λ (is : IsInGroups groups (numbers ++ number ∷ []) place). subst (λ (xs : List ℕ). Contains xs place) (sym e) (elim (Contains-push_cases numbers number is.number is.among) [
    | inl before ↦ Contains-append_left old (list_at groups number) place ((so_far place).1 (record { number = is.number; among = before; has = is.has }))
    | inr same ↦ Contains-append_right old (list_at groups number) place (subst (λ (n : ℕ). Contains (list_at groups n) place) (sym same) is.has)
  ]),
)

-- what was gathered, sorted and without repetitions
pub IsListFrom-sorted : (groups : List (Vec ℕ)) (numbers gathered sorted kept : List ℕ) → ((place : ℕ) → Contains gathered place ↔ IsInGroups groups numbers place)
    → IsPermutation gathered sorted → IsSorted nat_cmp sorted → kept ≡ dedup eqb sorted → IsListFrom groups numbers kept
IsListFrom-sorted groups numbers gathered sorted kept members permutes up e =
    record {
      rising = subst (λ (xs : List ℕ). IsStrictlySortedBy nat_cmp xs) (sym e) (IsStrictlySortedBy-dedup nat_cmp_total unsigned_ties sorted up);
      members = λ place. (
        λ (has : Contains kept place). (members place).0 (Contains-permutation sorted gathered place (IsPermutation-sym gathered sorted permutes)
            (Contains-from_dedup eqb sorted place (subst (λ (xs : List ℕ). Contains xs place) e has))),
        λ (is : IsInGroups groups numbers place). subst (λ (xs : List ℕ). Contains xs place) (sym e)
            (Contains-dedup_nat sorted place (Contains-permutation gathered sorted place permutes ((members place).1 is))),
      );
    }

-- the list of one set more
pub AreListsFrom-push : (groups sets lists : List (Vec ℕ)) (numbers list : Vec ℕ) → AreListsFrom groups sets lists → IsListFrom groups numbers.items list.items
    → AreListsFrom groups (sets ++ numbers ∷ []) (lists ++ list ∷ [])
AreListsFrom-push groups sets lists numbers list are is =
    let count = are.count in
    let sets_long = length_push sets numbers in
    let long = length_push lists list in
    record {
      count = omega (arith, count, sets_long, long);
      each = λ place within. elim (cases_lt place (length sets)) [
        | inl l ↦
            subst (λ (ns : List ℕ). IsListFrom groups ns (list_at (lists ++ list ∷ []) place)) (sym (list_at-append sets (numbers ∷ []) place l))
            (subst (IsListFrom groups (list_at sets place)) (sym (list_at-append lists (list ∷ []) place (omega (arith, l, count)))) (are.each place l))
        | inr g ↦
            let last : length sets ≡ place = omega (arith, g, within, sets_long) in
            subst (λ (ns : List ℕ). IsListFrom groups ns (list_at (lists ++ list ∷ []) place)) (sym (list_at-push sets numbers place last))
            (subst (IsListFrom groups numbers.items) (sym (list_at-push lists list place (count ∙ last))) is)
      ];
    }

-- one list more, and the longest of all
pub IsMostRules-push : (lists : List (List ℕ)) (list : List ℕ) (most : ℕ) → IsMostRules lists most → IsMostRules (lists ++ list ∷ []) (max most (length list))
IsMostRules-push lists list most is =
    let IsLow : ℕ → List ℕ → Type 0 = λ n xs. length xs ≤ n in
    let new = max most (length list) in
    record {
      above = All-append (IsLow new) lists (list ∷ []) (All-weaker (IsLow most) (IsLow new) (λ xs l. omega (arith, l)) lists is.above)
          (All-cons (IsLow new) list [] (omega arith) (All-nil (IsLow new)));
      greatest = elim (cases_lt most (length list)) [
        | inl l ↦ inr (list, Contains-push lists list, omega (arith, l))
        | inr g ↦ elim is.greatest [
          | inl z ↦ inl (omega (arith, z, g))
          | inr (xs, among, e) ↦ inr (xs, Contains-append_left lists (list ∷ []) xs among, omega (arith, e, g))
        ]
      ];
    }
