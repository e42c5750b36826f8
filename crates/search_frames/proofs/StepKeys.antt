-- Keys are compared part by part, so one is less where it has a smaller phase, or more letters, or a smaller rule.
use Rattle.std.proofs.Common.{◌≡◌, ◌<◌, ◌⊎◌, inl, inr, sym, ◌∙◌, ap}
use Rattle.std.specs.Cmp.{ranked}
use Rattle.std.specs.Ordering.{nat_cmp, ordering_then}
use Rattle.std.specs.declared.cmp.Ordering.{Ordering}
use Rattle.std.specs.declared.cmp.Ordering.TheVariants.{Less, Equal}
use Rattle.segmentation_definitions.specs.Listings.{Key, compare_keys}
use Rattle.list_laws.proofs.Orderings.{less_then_cases, nat_cmp-Less, nat_cmp-Equal}

-- the key comes before the other: by its phase, by more letters taken, or by its rule
abbrev pub IsBefore : Key → Key → Type 0
IsBefore left right = (left.phase < right.phase)
    ⊎ ((left.phase ≡ right.phase) × ((right.taken < left.taken) ⊎ ((right.taken ≡ left.taken) × (left.rule < right.rule))))

then_less : (first second : Ordering) → (first ≡ Less) ⊎ ((first ≡ Equal) × (second ≡ Less)) → ordering_then first second ≡ Less
then_less first second (inl less) = ap (λ (o : Ordering). ordering_then o second) less
then_less first second (inr (equal, less)) = ap (λ (o : Ordering). ordering_then o second) equal ∙ less

-- keys compare so
pub before_from_less : (left right : Key) → compare_keys left right ≡ Less → IsBefore left right
before_from_less left right e = elim (less_then_cases (nat_cmp left.phase right.phase) (ordering_then (nat_cmp right.taken left.taken) (nat_cmp left.rule right.rule)) e) [
  | inl l ↦ inl (ranked left.phase right.phase Less (sym l))
  | inr (q, f) ↦ inr (
    ranked left.phase right.phase Equal (sym q),
    elim (less_then_cases (nat_cmp right.taken left.taken) (nat_cmp left.rule right.rule) f) [
      | inl l ↦ inl (ranked right.taken left.taken Less (sym l))
      | inr (same, l) ↦ inr (ranked right.taken left.taken Equal (sym same), ranked left.rule right.rule Less (sym l))
    ],
  )
]

pub less_from_before : (left right : Key) → IsBefore left right → compare_keys left right ≡ Less
less_from_before left right (inl low) =
    then_less (nat_cmp left.phase right.phase) (ordering_then (nat_cmp right.taken left.taken) (nat_cmp left.rule right.rule)) (inl (nat_cmp-Less left.phase right.phase low))
less_from_before left right (inr (same, inl more)) =
    then_less (nat_cmp left.phase right.phase) (ordering_then (nat_cmp right.taken left.taken) (nat_cmp left.rule right.rule))
    (inr (nat_cmp-Equal left.phase right.phase same, then_less (nat_cmp right.taken left.taken) (nat_cmp left.rule right.rule) (inl (nat_cmp-Less right.taken left.taken more))))
less_from_before left right (inr (same, inr (letters, low))) =
    then_less (nat_cmp left.phase right.phase) (ordering_then (nat_cmp right.taken left.taken) (nat_cmp left.rule right.rule))
    (inr (
      nat_cmp-Equal left.phase right.phase same,
      then_less (nat_cmp right.taken left.taken) (nat_cmp left.rule right.rule)
          (inr (nat_cmp-Equal right.taken left.taken letters, nat_cmp-Less left.rule right.rule low)),
    ))
