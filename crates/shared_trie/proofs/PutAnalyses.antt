-- What a binary search over a rising list of analyses says of the list with one more in its place; and the analyses of some deltas,
-- with one delta more.
use Rattle.std.proofs.Common.{◌≡◌, ℕ, ◌+◌, ◌<◌, ◌≤◌, List, [], ◌∷◌, ◌++◌, map, length, take, get_or, Ok, Err, sym, ◌∙◌, ap, subst}
use Rattle.std.specs.Prelude.{All}
use Rattle.std.specs.List.{insert}
use Rattle.std.specs.List.Sorted.{IsStrictlySortedBy, IsSearchInRange, IsBinarySearchResult}
use Rattle.std.proofs.lemmas.List.{take_more, map-append, get_or-map, length-map}
use Rattle.lexicon_definitions.specs.Analyses.{Analysis as TextAnalysis, compare_analyses}
use Rattle.lexicon_definitions.specs.Deltas.{Delta as TextDelta, analysis_by}
use Rattle.lexicon_definitions.proofs.FormsWithEntry.{analyses_total}
use Rattle.list_laws.specs.RisingSets.{with_element, with_elements}
use Rattle.list_laws.proofs.RisingSetLaws.{with_element_at, with_element_there, with_elements-append, sorted-with_elements}
use Rattle.form_tags.specs.declared.analysis.Analysis.{Analysis}
use Rattle.form_tags.specs.declared.delta.Delta.{Delta}
use Rattle.form_tags.specs.Analyses.{text_analysis, text_delta}
use Rattle.form_tags.proofs.AnalysisOrder.{exact_analyses}
use Rattle.shared_trie.proofs.SearchedPlaces.{map-insert, place_searched}

module _ (slice analyses : List Analysis) (analysis : Analysis) (same : slice ≡ analyses) (rising : IsStrictlySortedBy compare_analyses (map text_analysis analyses)) where
  -- it is put in at the place
  pub put_at : (place : ℕ) → IsSearchInRange (Err place) (length slice)
      → IsBinarySearchResult (λ (other : Analysis). compare_analyses (text_analysis other) (text_analysis analysis)) slice (Err place)
      → map text_analysis (insert analyses place analysis) ≡ with_element compare_analyses (map text_analysis analyses) (text_analysis analysis)
  put_at place range found =
      let at = place_searched analyses_total exact_analyses text_analysis analyses (text_analysis analysis) analysis (Err place) rising
      (subst (λ (xs : List Analysis). IsSearchInRange (Err place) (length xs)) same range)
      (subst (λ (xs : List Analysis). IsBinarySearchResult (λ (other : Analysis). compare_analyses (text_analysis other) (text_analysis analysis)) xs (Err place)) same found) in
      map-insert text_analysis analyses place analysis
      ∙ sym (with_element_at analyses_total exact_analyses (map text_analysis analyses) (text_analysis analysis) place rising at.0
      (λ _. (λ k d low below. at.1 k d below, λ k d low within. at.2 k d low within)))

  -- it is there
  pub put_there : (place : ℕ) → IsSearchInRange (Ok place) (length slice)
      → IsBinarySearchResult (λ (other : Analysis). compare_analyses (text_analysis other) (text_analysis analysis)) slice (Ok place)
      → map text_analysis analyses ≡ with_element compare_analyses (map text_analysis analyses) (text_analysis analysis)
  put_there place range found =
      let at = place_searched analyses_total exact_analyses text_analysis analyses (text_analysis analysis) analysis (Ok place) rising
      (subst (λ (xs : List Analysis). IsSearchInRange (Ok place) (length xs)) same range)
      (subst (λ (xs : List Analysis). IsBinarySearchResult (λ (other : Analysis). compare_analyses (text_analysis other) (text_analysis analysis)) xs (Ok place)) same found) in
      sym (with_element_there analyses_total exact_analyses (map text_analysis analyses) (text_analysis analysis) rising (place, at.0, at.1 (text_analysis analysis)))

-- the analyses that deltas give a form
abbrev pub given : List ℕ → List Delta → List TextAnalysis
given form deltas = map (analysis_by form) (map text_delta deltas)

-- analyses that are put in rise
pub given_rise : (form : List ℕ) (deltas : List Delta) (old : List TextAnalysis) → old ≡ with_elements compare_analyses [] (given form deltas)
    → IsStrictlySortedBy compare_analyses old
unfolding IsStrictlySortedBy
given_rise form deltas old is =
    subst (IsStrictlySortedBy compare_analyses) (sym is) (sorted-with_elements analyses_total exact_analyses [] (given form deltas) tt)

-- one delta cuts no more than there is
pub one_within : (form : List ℕ) (deltas : List Delta) (k : ℕ) (delta : Delta)
    → All (λ (d : TextDelta). d.cut ≤ length form) (map text_delta deltas) → k < length deltas → delta ≡ get_or deltas k delta → delta.cut ≤ length form
one_within form deltas k delta within low is =
    subst (λ (d : TextDelta). d.cut ≤ length form) (get_or-map text_delta deltas k delta (text_delta delta) low ∙ ap text_delta (sym is))
    (within k (text_delta delta) (subst (λ n. k < n) (sym (length-map deltas text_delta)) low))

-- one analysis more is put in
pub one_put : (form : List ℕ) (deltas : List Delta) (k : ℕ) (delta : Delta) (analysis : TextAnalysis) (old new : List TextAnalysis)
    → k < length deltas → delta ≡ get_or deltas k delta → analysis ≡ analysis_by form (text_delta delta)
    → old ≡ with_elements compare_analyses [] (given form (take k deltas)) → new ≡ with_element compare_analyses old analysis
    → new ≡ with_elements compare_analyses [] (given form (take (k + 1) deltas))
one_put form deltas k delta analysis old new low is analysis_is so_far new_is =
    let last = analysis_by form (text_delta delta) in
    let longer : given form (take (k + 1) deltas) ≡ given form (take k deltas) ++ last ∷ [] =
    ap (given form) (take_more deltas k delta low ∙ ap (λ (d : Delta). take k deltas ++ d ∷ []) (sym is))
    ∙ ap (map (analysis_by form)) (map-append text_delta (take k deltas) (delta ∷ []))
    ∙ map-append (analysis_by form) (map text_delta (take k deltas)) (text_delta delta ∷ []) in
    new_is ∙ (λ i. with_element compare_analyses (so_far i) (analysis_is i))
    ∙ sym (with_elements-append compare_analyses [] (given form (take k deltas)) (last ∷ []))
    ∙ ap (with_elements compare_analyses []) (sym longer)
