-- Deltas and children that are equal for the program are one: field by field, down to the enums of a tag, whose derived equality tells
-- their variants; and deltas with one text are one.
use Rattle.std.proofs.Common.{◌≡◌, ℕ, true, ◌&&◌, List, [], ◌∷◌, map, refl, ap, subst, rules, nat_eq, Decides}
use Rattle.std.proofs.lemmas.Bool.{eqb-true, and_parts}
use Rattle.std.proofs.lemmas.Slice.Eq.{slice_eq-Decides}
use Rattle.std.proofs.lemmas.Bool.Decides.{Decides-eqb}
use Rattle.std.specs.Cmp.Lexicographic.{pointwise}
use Rattle.form_tags.specs.contracts.delta.DeltaEq.TheImpl.Laws.{laws-law as delta_laws}
use Rattle.form_tags.specs.declared.delta.Delta.{Delta}
use Rattle.form_tags.specs.contracts.tag.TagPartialEq.TheImpl.{eq-value as tag_eq}
use Rattle.form_tags.specs.contracts.delta.DeltaPartialEq.TheImpl.{eq-value as delta_eq}
use Rattle.form_tags.specs.Analyses.{text_delta}
use Rattle.form_tags.proofs.TagsByText.{tag_text-once}
use Rattle.lexicon_definitions.specs.Deltas.{Delta as TextDelta}
use Rattle.form_tags.proofs.TagEquality.{tag_one}

-- deltas that are equal are one
delta_one : (a b : Delta) → delta_eq.it a b ≡ true → a ≡ b
delta_one a b e =
    let first = and_parts (nat_eq a.cut b.cut) (pointwise nat_eq a.append b.append && tag_eq.it a.tag b.tag) e in
    let rest = and_parts (pointwise nat_eq a.append b.append) (tag_eq.it a.tag b.tag) first.1 in
    let cut : a.cut ≡ b.cut = eqb-true a.cut b.cut first.0 in
    let append : a.append ≡ b.append = (slice_eq-Decides Decides-eqb a.append b.append (pointwise nat_eq a.append b.append) refl).0 rest.0 in
    let tag : a.tag ≡ b.tag = tag_one a.tag b.tag rest.1 in
    λ i. record { cut = cut i; append = append i; tag = tag i }

-- equality of deltas decides whether they are one
pub delta_decides : (a b : Delta) → Decides (delta_eq.it a b) (a ≡ b)
delta_decides a b = (delta_one a b, λ e. subst (λ (d : Delta). delta_eq.it a d ≡ true) e (delta_laws.refl a))

-- children are equal where they are one
pub child_decides : (a b : ℕ × ℕ) → Decides (nat_eq a.0 b.0 && nat_eq a.1 b.1) (a ≡ b)
child_decides a b = (
  λ e. let two = and_parts (nat_eq a.0 b.0) (nat_eq a.1 b.1) e in λ i. (eqb-true a.0 b.0 two.0 i, eqb-true a.1 b.1 two.1 i),
  λ e. subst (λ (c : ℕ × ℕ). (nat_eq a.0 c.0 && nat_eq a.1 c.1) ≡ true) e (search rules),
)

-- deltas with one text are one
pub text_delta-once : (a b : Delta) → text_delta a ≡ text_delta b → a ≡ b
text_delta-once a b e =
    let cut : a.cut ≡ b.cut = ap (λ (d : TextDelta). d.cut) e in
    let append : a.append ≡ b.append = ap (λ (d : TextDelta). d.append) e in
    let tag : a.tag ≡ b.tag = tag_text-once a.tag b.tag (ap (λ (d : TextDelta). d.tag) e) in
    λ i. record { cut = cut i; append = append i; tag = tag i }

-- lists of deltas with one text are one
pub text_deltas-once : (xs ys : List Delta) → map text_delta xs ≡ map text_delta ys → xs ≡ ys
text_deltas-once [] [] e = refl
text_deltas-once [] (y ∷ ys) e = absurd cc
text_deltas-once (x ∷ xs) [] e = absurd cc
text_deltas-once (x ∷ xs) (y ∷ ys) e =
    let first : x ≡ y = text_delta-once x y cc in
    let rest : xs ≡ ys = text_deltas-once xs ys cc in
    λ i. first i ∷ rest i
