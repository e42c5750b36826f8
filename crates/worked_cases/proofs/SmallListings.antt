-- The listings of some small cases: the candidates compute, and each is listed or refused.
use Rattle.std.proofs.Common.{[], ◌∷◌, refl, lit<}
use Rattle.std.specs.List.Sorted.{IsStrictlySortedBy}
use Rattle.segmentation_definitions.specs.Listings.{IsListing}
use Rattle.worked_cases.specs.WorkedLexicons.{step, unbroken, word_ca, word_caa, word_iti, word_ceti, word_na, word_aa, word_gacchati, word_naagacchati, word_asti, word_aasti, word_naasti, preverb_lexicon, naasti_lexicon, limited_lexicon}
use Rattle.worked_cases.proofs.Candidates.{candidates, listing_is}
use Rattle.worked_cases.proofs.SmallAnswers.{na_aa_gacchati, na_asti, na_aasti, ca_iti_of_q, caa_iti_of_r, no_ca_iti_of_r, no_caa_iti_of_q}
use Rattle.worked_cases.proofs.SmallLexicons.{preverb_is_lexicon, naasti_is_lexicon, limited_is_lexicon}

pub listing_of_naagacchati : IsListing preverb_lexicon (unbroken word_naagacchati) []
    ((step 0 word_na 1 ∷ step 1 word_aa 0 ∷ step 2 word_gacchati 0 ∷ []) ∷ [])
unfolding IsStrictlySortedBy candidates
listing_of_naagacchati =
    listing_is _ _ _ _ preverb_is_lexicon (tt, tt) (na_aa_gacchati, tt) (λ a. (0, lit< tt, refl), tt)

pub listing_of_naasti : IsListing naasti_lexicon (unbroken word_naasti) []
    ((step 0 word_na 1 ∷ step 0 word_asti 0 ∷ []) ∷ (step 0 word_na 2 ∷ step 0 word_aasti 0 ∷ []) ∷ [])
unfolding IsStrictlySortedBy candidates
listing_of_naasti =
    listing_is _ _ _ _ naasti_is_lexicon ((refl, tt), (tt, tt)) (na_asti, (na_aasti, tt))
    (λ a. (1, lit< tt, refl), (λ a. (0, lit< tt, refl), tt))

pub listing_of_limited_ceti : IsListing limited_lexicon (unbroken word_ceti) []
    ((step 0 word_ca 1 ∷ step 1 word_iti 0 ∷ []) ∷ (step 0 word_caa 2 ∷ step 2 word_iti 0 ∷ []) ∷ [])
unfolding IsStrictlySortedBy candidates
listing_of_limited_ceti =
    listing_is _ _ _ _ limited_is_lexicon ((refl, tt), (tt, tt)) (ca_iti_of_q, (caa_iti_of_r, tt))
    (λ a. (0, lit< tt, refl), (λ a. absurd (no_ca_iti_of_r a), (λ a. absurd (no_caa_iti_of_q a), (λ a. (1, lit< tt, refl), tt))))
