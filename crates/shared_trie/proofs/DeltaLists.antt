-- The deltas of a list of analyses: each is the delta of one of them, different analyses have different deltas, and sorting
-- keeps the set.
use Rattle.std.proofs.Common.{◌≡◌, ◌≢◌, ℕ, suc, ◌<◌, ◌↔◌, List, [], ◌∷◌, ◌++◌, length, map, get_or, refl, sym, ◌∙◌, ap, subst, arith}
use Rattle.std.specs.Prelude.{AllPairs, Contains, IsPermutation}
use Rattle.std.specs.List.Sorted.{IsStrictlySortedBy}
use Rattle.std.proofs.lemmas.List.{get_or-map, length-map, get_or_push, get_or_append_left, length_push}
use Rattle.std.proofs.lemmas.List.Elements.{Contains-get_or}
use Rattle.std.proofs.Common.{inl, inr}
use Rattle.std.proofs.lemmas.Bool.{cases_lt}
use Rattle.form_tags.proofs.DeltaLaws.{IsDelta-once}
use Rattle.lexicon_definitions.specs.Analyses.{Analysis, compare_analyses}
use Rattle.lexicon_definitions.specs.Deltas.{Delta, IsDelta, analysis_by, compare_deltas}
use Rattle.std.specs.declared.cmp.Ordering.{Ordering}
use Rattle.std.specs.declared.cmp.Ordering.TheVariants.{Less, Equal, Greater}
use Rattle.std.specs.Ordering.{nat_cmp, ordering_then, ordering_reverse, is_lt}
use Rattle.std.specs.Cmp.Lexicographic.{slice_cmp}
use Rattle.std.specs.Prelude.{IsSortedByKey}
use Rattle.std.proofs.Common.{false, true≢false}
use Rattle.std.proofs.lemmas.Map.Keys.{Less-from_sorted}
use Rattle.std.proofs.lemmas.Map.Made.{AllPairs-from_IsDistinct, IsDistinct-from_AllPairs}
use Rattle.std.proofs.lemmas.Map.Keys.{IsDistinct-IsPermutation}
use Rattle.std.proofs.lemmas.Map.Lookups.{exact_unsigned, exact_bytes}
use Rattle.std.proofs.lemmas.List.MinMax.{ranks_by}
use Rattle.std.proofs.lemmas.List.Sorted.{sorted_far, Contains-permutation, IsPermutation-sym}
use Rattle.std.proofs.lemmas.List.Elements.{recursion_from_All}
use Rattle.list_laws.proofs.Sorted.{not_Less-itself}
use Rattle.lexicon_definitions.proofs.TrieSuffixes.{compare_deltas-total}
use Rattle.form_tags.specs.declared.delta.Delta.{Delta as TagDelta}
use Rattle.form_tags.specs.contracts.delta.DeltaPartialEq.TheImpl.{eq-value as delta_eq}
use Rattle.form_tags.specs.contracts.delta.DeltaEq.TheImpl.Laws.{laws-law as delta_laws}
use Rattle.form_tags.specs.Analyses.{text_delta}
use Rattle.shared_trie.proofs.RowEquality.{delta_decides, text_delta-once}
use Rattle.shared_trie.specs.OpenForms.{AreDeltas}
use Rattle.shared_trie.specs.Runs.{IsDeltaAmong}
use Rattle.lexicon_definitions.proofs.FormsWithEntry.{analyses_total}

-- some element of a list with a place
pub some_element : {X : Type 0} (xs : List X) (k : ℕ) → k < length xs → X
some_element [] k l = absurd (omega (arith, l))
some_element (x ∷ xs) k l = x

-- what is among the deltas is the delta of one of the analyses, and back
pub Contains-deltas : (form : List ℕ) (analyses : List Analysis) (deltas : List Delta) → AreDeltas form analyses deltas
    → (delta : Delta) → Contains deltas delta ↔ IsDeltaAmong form analyses delta
Contains-deltas form analyses deltas are delta = (
  λ (among : Contains deltas delta).
      let (k, l, e) = among in
      let count = are.count in
      let low : k < length analyses = omega (arith, l, count) in
      let any = some_element analyses k low in
      record {
        analysis = get_or analyses k any;
        is_analyzed = Contains-get_or analyses k any low;
        is_delta = subst (IsDelta form (get_or analyses k any)) e (are.each k any delta low);
      },
  λ is.
      let (k, l, e) = is.is_analyzed in
      let count = are.count in
      let here : IsDelta form is.analysis (get_or deltas k delta) = subst (λ (a : Analysis). IsDelta form a (get_or deltas k delta)) e (are.each k is.analysis delta l) in
      (k, omega (arith, l, count), IsDelta-once form is.analysis (get_or deltas k delta) delta here is.is_delta),
)

-- analyses that rise are different, and so are their deltas
pub deltas_apart : (form : List ℕ) (analyses : List Analysis) (deltas : List Delta) → AreDeltas form analyses deltas
    → IsStrictlySortedBy compare_analyses analyses → AllPairs (λ a b. a ≢ b) deltas
deltas_apart form analyses deltas are rising i j d l h e =
    let count = are.count in
    let low : j < length analyses = omega (arith, h, count) in
    let any = some_element analyses j low in
    let first = (are.each i any d (omega (arith, l, low))).gives in
    let second = (are.each j any d low).gives in
    let one : get_or analyses i any ≡ get_or analyses j any = sym first ∙ ap (analysis_by form) e ∙ second in
    let less = Less-from_sorted compare_analyses analyses i j any rising l low in
    not_Less-itself analyses_total (get_or analyses j any) (subst (λ (a : Analysis). compare_analyses a (get_or analyses j any) ≡ Less) one less)

-- one more analysis, with its delta
pub AreDeltas-push : (form : List ℕ) (analyses : List Analysis) (deltas : List Delta) (analysis : Analysis) (delta : Delta)
    → AreDeltas form analyses deltas → IsDelta form analysis delta → AreDeltas form (analyses ++ analysis ∷ []) (deltas ++ delta ∷ [])
AreDeltas-push form analyses deltas analysis delta are is =
    let count = are.count in
    let longer = length_push deltas delta in
    let long = length_push analyses analysis in
    record {
      count = omega (arith, count, longer, long);
      each = λ k a d low.
          elim (cases_lt k (length analyses)) [
            | inl l ↦ subst (λ (x : Analysis). IsDelta form x (get_or (deltas ++ delta ∷ []) k d)) (sym (get_or_append_left analyses (analysis ∷ []) a k l)) (subst (IsDelta form (get_or analyses k a)) (sym (get_or_append_left deltas (delta ∷ []) d k (omega (arith, l, count)))) (are.each k a d l))
            | inr g ↦
                let last : length analyses ≡ k = omega (arith, g, low, long) in
                subst (λ (x : Analysis). IsDelta form x (get_or (deltas ++ delta ∷ []) k d)) (sym (get_or_push analyses analysis a k last)) (subst (IsDelta form analysis) (sym (get_or_push deltas delta d k (omega (arith, last, count)))) is)
          ];
    }

-- a list whose elements are each below all later ones rises
pub sorted_from_pairs : {X : Type 0} (R : X → X → Ordering) (xs : List X) → AllPairs (λ a b. R a b ≡ Less) xs → IsStrictlySortedBy R xs
unfolding IsStrictlySortedBy
sorted_from_pairs R [] pairs = tt
sorted_from_pairs R (x ∷ xs) pairs = (
  recursion_from_All (λ y. R x y ≡ Less) xs (λ k d l. pairs 0 (suc k) d (omega arith) (omega (arith, l))),
  sorted_from_pairs R xs (λ i j d l h. pairs (suc i) (suc j) d (omega (arith, l)) (omega (arith, h))),
)

-- deltas that tie are one
one_from_tie : (a b : Delta) → compare_deltas a b ≡ Equal → a ≡ b
one_from_tie a b e =
    let first = both_tie (nat_cmp a.cut b.cut) (ordering_then (slice_cmp nat_cmp a.append b.append) (slice_cmp nat_cmp a.tag b.tag)) e in
    let rest = both_tie (slice_cmp nat_cmp a.append b.append) (slice_cmp nat_cmp a.tag b.tag) first.1 in
    let cut : a.cut ≡ b.cut = exact_unsigned a.cut b.cut first.0 in
    let append : a.append ≡ b.append = exact_bytes a.append b.append rest.0 in
    let tag : a.tag ≡ b.tag = exact_bytes a.tag b.tag rest.1 in
    λ i. record { cut = cut i; append = append i; tag = tag i }
  where
    both_tie : (o p : Ordering) → ordering_then o p ≡ Equal → (o ≡ Equal) × (p ≡ Equal)
    both_tie Less p e = absurd cc
    both_tie Equal p e = (refl, e)
    both_tie Greater p e = absurd cc

-- of two different deltas the first is below the second where the second is not below the first
below_from_not_above : (a b : Delta) → a ≢ b → is_lt (compare_deltas b a) ≡ false → compare_deltas a b ≡ Less
below_from_not_above a b differ not_above = by (compare_deltas a b) refl
  where
    by : (o : Ordering) → compare_deltas a b ≡ o → compare_deltas a b ≡ Less
    by Less e = e
    by Equal e = absurd (differ (one_from_tie a b e))
    by Greater e =
        let less : compare_deltas b a ≡ Less = compare_deltas-total.antisymm b a ∙ ap ordering_reverse e in
        absurd (true≢false (sym (ap is_lt less) ∙ not_above))

-- deltas of which no two have one text, in another order
apart_moved : (old new : List TagDelta) → IsPermutation old new → AllPairs (λ a b. a ≢ b) old → AllPairs (λ a b. a ≢ b) new
apart_moved old new moved apart =
    AllPairs-from_IsDistinct delta_decides new
    (IsDistinct-IsPermutation delta_eq.it delta_laws.symm old new moved (IsDistinct-from_AllPairs delta_decides old apart))

-- the texts of different deltas that are sorted rise
pub texts_rise : (old new : List TagDelta) → IsPermutation old new → AllPairs (λ a b. a ≢ b) (map text_delta old)
    → IsSortedByKey text_delta compare_deltas new → IsStrictlySortedBy compare_deltas (map text_delta new)
texts_rise old new moved apart sorted =
    let old_apart : AllPairs (λ a b. a ≢ b) old = λ i j d l h e.
    let long = length-map old text_delta in
    apart i j (text_delta d) l (omega (arith, h, long))
    (get_or-map text_delta old i d (text_delta d) (omega (arith, l, h)) ∙ ap text_delta e ∙ sym (get_or-map text_delta old j d (text_delta d) h)) in
    let new_apart = apart_moved old new moved old_apart in
    sorted_from_pairs compare_deltas (map text_delta new) (λ i j d l h.
    let long = length-map new text_delta in
    let low : j < length new = omega (arith, h, long) in
    let any = some_element new j low in
    let first = get_or-map text_delta new i any d (omega (arith, l, low)) in
    let second = get_or-map text_delta new j any d low in
    let less = below_from_not_above (text_delta (get_or new i any)) (text_delta (get_or new j any))
    (λ e. new_apart i j any l low (text_delta-once (get_or new i any) (get_or new j any) e))
    (sorted_far (λ (x y : TagDelta). is_lt (compare_deltas (text_delta x) (text_delta y))) (ranks_by compare_deltas-total text_delta) new sorted i j any (omega (arith, l)) low) in
    (λ k. compare_deltas (first k) (second k)) ∙ less)

-- sorting keeps what is among the texts
pub Contains-moved : (old new : List TagDelta) (delta : Delta) → IsPermutation old new
    → Contains (map text_delta new) delta ↔ Contains (map text_delta old) delta
Contains-moved old new delta moved = (there new old delta (IsPermutation-sym old new moved), there old new delta moved)
  where
    there : (xs ys : List TagDelta) (delta : Delta) → IsPermutation xs ys → Contains (map text_delta xs) delta → Contains (map text_delta ys) delta
    there xs ys delta m (k, l, e) =
        let long = length-map xs text_delta in
        let low : k < length xs = omega (arith, l, long) in
        let any = some_element xs k low in
        let one = get_or-map text_delta xs k any delta low in
        let (n, h, f) = Contains-permutation xs ys (get_or xs k any) m (Contains-get_or xs k any low) in
        let longer = length-map ys text_delta in
        (n, omega (arith, h, longer), get_or-map text_delta ys n (get_or xs k any) delta h ∙ ap text_delta f ∙ sym one ∙ e)
