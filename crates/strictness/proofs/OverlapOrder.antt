-- The order is total, so the first overlaps are told by which they are: one that a list of them has and another has not comes
-- after the other, which is then as long. And an overlap is less by the first part in which two differ.
use Rattle.std.proofs.Common.{◌≡◌, ℕ, inl, inr, List, refl, subst, arith}
use Rattle.std.specs.Ordering.{nat_cmp}
use Rattle.std.specs.declared.cmp.Ordering.TheVariants.{Less, Equal}
use Rattle.std.proofs.lemmas.Cmp.{nat_list_cmp_total, tied_itself}
use Rattle.text_definitions.specs.Words.{compare_words}
use Rattle.lexicon_definitions.specs.Lexicons.{Lexicon}
use Rattle.list_laws.proofs.Sorted.{same_fronts}
use Rattle.segmentation_definitions.specs.Overlaps.{Overlap, compare_overlaps}
use Rattle.segmentation_definitions.proofs.OverlapOrder.{compare_overlaps_total}
use Rattle.strictness.specs.Overlaps.{AreFirstOverlaps}
use Rattle.list_laws.proofs.Orderings.{nat_cmp-Equal}

pub one_list : (lexicon : Lexicon) (most : ℕ) (left right : List Overlap) → AreFirstOverlaps lexicon most left
    → AreFirstOverlaps lexicon most right → left ≡ right
one_list lexicon most left right l r =
    same_fronts compare_overlaps_total left right l.rising r.rising
    (λ x m. elim (r.first x (l.only x m)) [ inl n ↦ inl n | inr (e, b) ↦ inr (omega (arith, l.at_most), b) ])
    (λ x m. elim (l.first x (r.only x m)) [ inl n ↦ inl n | inr (e, b) ↦ inr (omega (arith, r.at_most), b) ])

same_words : (left right : List ℕ) → left ≡ right → compare_words left right ≡ Equal
same_words left right e = subst (λ word. compare_words left word ≡ Equal) e (tied_itself nat_list_cmp_total left)

pub less_by_phase : (x y : Overlap) → nat_cmp x.phase y.phase ≡ Less → compare_overlaps x y ≡ Less
less_by_phase x y h = rw h refl

pub less_by_form : (x y : Overlap) → x.phase ≡ y.phase → compare_words x.form y.form ≡ Less → compare_overlaps x y ≡ Less
less_by_form x y p h = rw (nat_cmp-Equal x.phase y.phase p, h) refl

pub less_by_before : (x y : Overlap) → x.phase ≡ y.phase → x.form ≡ y.form → nat_cmp x.before y.before ≡ Less → compare_overlaps x y ≡ Less
less_by_before x y p f h = rw (nat_cmp-Equal x.phase y.phase p, same_words x.form y.form f, h) refl

pub less_by_after : (x y : Overlap) → x.phase ≡ y.phase → x.form ≡ y.form → x.before ≡ y.before → nat_cmp x.after y.after ≡ Less
    → compare_overlaps x y ≡ Less
less_by_after x y p f b h =
    rw (nat_cmp-Equal x.phase y.phase p, same_words x.form y.form f, nat_cmp-Equal x.before y.before b, h) refl
