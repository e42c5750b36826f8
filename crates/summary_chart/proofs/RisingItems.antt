-- Items that compare as equal are the same, since each part of an item is compared; so items that are put in order, and of which
-- doubles are left out, are the same ones, rising. What a list of items has more after an item was appended, or items told in two ways.
use Rattle.std.proofs.Common.{◌≡◌, ◌⊎◌, ◌↔◌, inl, inr, List, [], ◌∷◌, ◌++◌, Contains, refl, sym, subst}
use Rattle.std.specs.List.{dedup}
use Rattle.std.specs.List.Sorted.{IsStrictlySortedBy, IsSorted, IsPermutation}
use Rattle.std.specs.Ordering.{eq_by_cmp}
use Rattle.std.proofs.lemmas.List.Elements.{Contains-append_left, Contains-push, Contains-push_cases}
use Rattle.std.proofs.lemmas.List.Kept.{Contains-dedup, Contains-from_dedup, IsStrictlySortedBy-dedup}
use Rattle.std.proofs.lemmas.List.Sorted.{Contains-permutation, IsPermutation-sym}
use Rattle.std.proofs.lemmas.Cmp.{eq_by_cmp_equiv}
use Rattle.std.proofs.lemmas.Map.Lookups.{CmpEqualImpliesEq, exact_unsigned, exact_bytes}
use Rattle.std.proofs.lemmas.Map.Views.{tells_apart}
use Rattle.segmentation_definitions.specs.Items.{Item}
use Rattle.segmentation_definitions.specs.Listings.{compare_items}
use Rattle.segmentation_definitions.proofs.ItemOrder.{compare_items_total}
use Rattle.summary_chart.specs.Summaries.{AddsItems}
use Rattle.list_laws.proofs.Orderings.{equal_then_both}

-- items that compare as equal are the same
pub compare_items_exact : CmpEqualImpliesEq compare_items
compare_items_exact left right e =
    let by_letters = equal_then_both _ _ e in
    let by_lead = equal_then_both _ _ by_letters.1 in
    let by_phase = equal_then_both _ _ by_lead.1 in
    let by_form = equal_then_both _ _ by_phase.1 in
    let at = exact_unsigned left.at right.at by_letters.0 in
    let phase = exact_unsigned left.phase right.phase by_phase.0 in
    let form = exact_bytes left.form right.form by_form.0 in
    let lead = exact_unsigned left.lead right.lead by_form.1 in
    λ i. record { at = at i; lead = lead i; phase = phase i; form = form i }

-- items in order, without doubles, are the same ones
pub rising_items : (items sorted kept : List Item) → IsPermutation items sorted → IsSorted compare_items sorted → kept ≡ dedup (eq_by_cmp compare_items) sorted
    → IsStrictlySortedBy compare_items kept × ((item : Item) → Contains kept item ↔ Contains items item)
rising_items items sorted kept permutes up e = (
  subst (IsStrictlySortedBy compare_items) (sym e) (IsStrictlySortedBy-dedup compare_items_total (λ x y. refl) sorted up),
  λ item. (
    λ has. Contains-permutation sorted items item (IsPermutation-sym items sorted permutes)
        (Contains-from_dedup (eq_by_cmp compare_items) sorted item (subst (λ xs. Contains xs item) e has)),
    λ has. subst (λ xs. Contains xs item) (sym e)
        (Contains-dedup (eq_by_cmp_equiv compare_items_total) (λ x y same. tells_apart compare_items_exact x y same) sorted item
        (Contains-permutation items sorted item permutes has)),
  ),
)

-- an item that is appended is added, and so is whatever is this item
pub adds_one : (IsTold : Item → Type 0) (old new : List Item) (item : Item) → new ≡ old ++ item ∷ [] → IsTold item
    → ((other : Item) → IsTold other → item ≡ other) → AddsItems IsTold old new
adds_one IsTold old new item is told one = record {
  keeps = λ other there. subst (λ items. Contains items other) (sym is) (Contains-append_left old (item ∷ []) other there);
  adds = λ other is_told. subst (λ items. Contains items other) (sym is)
      (subst (λ (i : Item). Contains (old ++ item ∷ []) i) (one other is_told) (Contains-push old item));
  only = λ other there. elim (Contains-push_cases old item other (subst (λ items. Contains items other) is there)) [
    | inl old ↦ inl old
    | inr same ↦ inr (subst IsTold same told)
  ];
}

-- where all that is told is there, nothing has to be added
pub adds_none : (IsTold : Item → Type 0) (items : List Item) → ((item : Item) → IsTold item → Contains items item) → AddsItems IsTold items items
adds_none IsTold items all = record {
  keeps = λ item there. there;
  adds = all;
  only = λ item there. inl there;
}

-- what is told in two ways was added in two turns
pub adds_both : (IsFirst IsSecond IsTold : Item → Type 0) (old mid new : List Item) → ((item : Item) → IsTold item → IsFirst item ⊎ IsSecond item)
    → ((item : Item) → IsFirst item → IsTold item) → ((item : Item) → IsSecond item → IsTold item)
    → AddsItems IsFirst old mid → AddsItems IsSecond mid new → AddsItems IsTold old new
adds_both IsFirst IsSecond IsTold old mid new either is_first is_second first second = record {
  keeps = λ item there. second.keeps item (first.keeps item there);
  adds = λ item told. elim (either item told) [
    | inl one ↦ second.keeps item (first.adds item one)
    | inr other ↦ second.adds item other
  ];
  only = λ item there. elim (second.only item there) [
    | inl before ↦ elim (first.only item before) [
      | inl was ↦ inl was
      | inr one ↦ inr (is_first item one)
    ]
    | inr other ↦ inr (is_second item other)
  ];
}

-- what is told in another way
pub adds_same : (IsFirst IsTold : Item → Type 0) (old new : List Item) → ((item : Item) → IsTold item → IsFirst item)
    → ((item : Item) → IsFirst item → IsTold item) → AddsItems IsFirst old new → AddsItems IsTold old new
adds_same IsFirst IsTold old new back forth first = record {
  keeps = first.keeps;
  adds = λ item told. first.adds item (back item told);
  only = λ item there. elim (first.only item there) [
    | inl was ↦ inl was
    | inr one ↦ inr (forth item one)
  ];
}
