-- What the listing has after each answer; an answer is not above itself.
use Rattle.std.proofs.Common.{◌≡◌, zero, suc, List, [], ◌∷◌, true, false, refl, sym, subst, lit<, arith}
use Rattle.std.specs.List.{Contains}
use Rattle.std.specs.List.Sorted.{IsStrictlySortedBy}
use Rattle.segmentation_definitions.specs.Derivations.{Step}
use Rattle.segmentation_definitions.specs.Listings.{IsListingAbove, IsAbove, BeforeFirst, AtAnswer}
use Rattle.worked_cases.specs.WorkedLexicons.{step, unbroken, word_na, word_asti, word_aasti, word_naasti, naasti_lexicon}
use Rattle.segmentation_definitions.proofs.Listings.{same_as_front}
use Rattle.worked_cases.proofs.SmallListings.{listing_of_naasti}
use Rattle.worked_cases.proofs.cases.pages_follow_one_another.Goals as goal

abbrev first : List Step
first = step 0 word_na 1 ∷ step 0 word_asti 0 ∷ []

abbrev second : List Step
second = step 0 word_na 2 ∷ step 0 word_aasti 0 ∷ []

following_first : (steps : List Step) → Contains (first ∷ second ∷ []) steps → IsAbove naasti_lexicon.rules (AtAnswer first) steps
    → Contains (second ∷ []) steps
following_first steps (zero, l, e) above =
    let itself = subst (λ s. IsAbove naasti_lexicon.rules (AtAnswer first) s) (sym e) above in absurd (cc (itself))
following_first steps (suc zero, l, e) above = (0, lit< tt, e)
following_first steps (suc (suc n), l, e) above = absurd (omega arith)

following_second : (steps : List Step) → Contains (first ∷ second ∷ []) steps → IsAbove naasti_lexicon.rules (AtAnswer second) steps
    → ⊥
following_second steps (zero, l, e) above =
    let first_above = subst (λ s. IsAbove naasti_lexicon.rules (AtAnswer second) s) (sym e) above in cc (first_above)
following_second steps (suc zero, l, e) above =
    let itself = subst (λ s. IsAbove naasti_lexicon.rules (AtAnswer second) s) (sym e) above in cc (itself)
following_second steps (suc (suc n), l, e) above = omega arith

only_second : (steps : List Step) → Contains (second ∷ []) steps → second ≡ steps
only_second steps (zero, l, e) = e
only_second steps (suc n, l, e) = absurd (omega arith)

above_first : IsListingAbove naasti_lexicon (unbroken word_naasti) [] (AtAnswer first) (second ∷ [])
unfolding IsStrictlySortedBy
above_first = record {
  rising = (tt, tt);
  only_answers = λ steps c. listing_of_naasti.only_answers steps (1, lit< tt, only_second steps c);
  only_above = λ steps c. subst (λ s. IsAbove naasti_lexicon.rules (AtAnswer first) s) (only_second steps c) refl;
  complete = λ steps a above. following_first steps (listing_of_naasti.complete steps a tt) above;
}

above_second : IsListingAbove naasti_lexicon (unbroken word_naasti) [] (AtAnswer second) []
unfolding IsStrictlySortedBy
above_second = record {
  rising = tt;
  only_answers = λ steps c. absurd (omega (arith, c.1));
  only_above = λ steps c. absurd (omega (arith, c.1));
  complete = λ steps a above. absurd (following_second steps (listing_of_naasti.complete steps a tt) above);
}

pub returns-clause-first : goal.returns-clause-first
returns-clause-first c =
    (same_as_front naasti_lexicon (unbroken word_naasti) [] BeforeFirst (first ∷ second ∷ []) 1 (first ∷ []) true listing_of_naasti).1
    (refl, (λ h e. cc, λ h. refl))

pub returns-clause-second : goal.returns-clause-second
returns-clause-second c =
    (same_as_front naasti_lexicon (unbroken word_naasti) [] (AtAnswer first) (second ∷ []) 1 (second ∷ []) false above_first).1
    (refl, (λ h. absurd (cc), λ h. absurd (h refl)))

pub returns-clause-third : goal.returns-clause-third
returns-clause-third c =
    (same_as_front naasti_lexicon (unbroken word_naasti) [] (AtAnswer second) [] 1 [] false above_second).1
    (refl, (λ h. absurd (cc), λ h. absurd (h refl)))
