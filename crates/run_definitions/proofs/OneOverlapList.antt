-- The order of overlaps is total, so the first ones are told by which they are; one is left after both lists or after neither.
use Rattle.std.proofs.Common.{◌≡◌, ℕ, inl, inr, List, Bool, true, false, refl, sym, subst, arith}
use Rattle.std.specs.List.{Contains}
use Rattle.std.specs.declared.cmp.Ordering.TheVariants.{Less}
use Rattle.std.proofs.lemmas.List.Elements.{All-contains}
use Rattle.lexicon_definitions.specs.Lexicons.{Lexicon}
use Rattle.list_laws.specs.Firsts.{ComesAfter}
use Rattle.list_laws.proofs.Sorted.{same_fronts, not_Less-itself}
use Rattle.segmentation_definitions.specs.Overlaps.{Overlap, IsOverlap, compare_overlaps}
use Rattle.segmentation_definitions.proofs.OverlapOrder.{compare_overlaps_total}
use Rattle.run_definitions.specs.Overlaps.{AreFirstOverlaps}

same_list : (lexicon : Lexicon) (most : ℕ) (left right : List Overlap) (left_more right_more : Bool)
    → AreFirstOverlaps lexicon most left left_more → AreFirstOverlaps lexicon most right right_more → left ≡ right
same_list lexicon most left right left_more right_more l r =
    same_fronts compare_overlaps_total left right l.first.rising r.first.rising
    (λ x m. elim (r.first.complete x (l.first.only x m)) [ inl n ↦ inl n | inr (e, b) ↦ inr (omega (arith, l.at_most, r.full e), b) ])
    (λ x m. elim (l.first.complete x (r.first.only x m)) [ inl n ↦ inl n | inr (e, b) ↦ inr (omega (arith, r.at_most, l.full e), b) ])

-- an overlap that comes after a list is not in it
not_after_itself : (overlaps : List Overlap) (x : Overlap) → Contains overlaps x → ComesAfter compare_overlaps overlaps x → ⊥
not_after_itself overlaps x m after =
    not_Less-itself compare_overlaps_total x (All-contains (λ y. compare_overlaps y x ≡ Less) overlaps x after m)

-- where an overlap is left after a list, one is left after each
left_after : (lexicon : Lexicon) (most : ℕ) (overlaps : List Overlap) (more : Bool) → AreFirstOverlaps lexicon most overlaps more
    → (x : Overlap) → IsOverlap lexicon x → ComesAfter compare_overlaps overlaps x → more ≡ true
left_after lexicon most overlaps more l x is after =
    elim (l.first.complete x is) [ inl m ↦ absurd (not_after_itself overlaps x m after) | inr (e, b) ↦ e ]

same_more : (lexicon : Lexicon) (most : ℕ) (overlaps : List Overlap) (left right : Bool)
    → AreFirstOverlaps lexicon most overlaps left → AreFirstOverlaps lexicon most overlaps right → left ≡ right
same_more lexicon most overlaps true right l r =
    let (x, is, after) = l.first.left refl in sym (left_after lexicon most overlaps right r x is after)
same_more lexicon most overlaps false true l r =
    let (x, is, after) = r.first.left refl in left_after lexicon most overlaps false l x is after
same_more lexicon most overlaps false false l r = refl

pub one_list : (lexicon : Lexicon) (most : ℕ) (left right : List Overlap) (left_more right_more : Bool)
    → AreFirstOverlaps lexicon most left left_more → AreFirstOverlaps lexicon most right right_more
    → (left ≡ right) × (left_more ≡ right_more)
one_list lexicon most left right left_more right_more l r =
    let same = same_list lexicon most left right left_more right_more l r in (
      same,
      same_more lexicon most right left_more right_more (subst (λ list. AreFirstOverlaps lexicon most list left_more) same l) r,
    )
