-- The candidates compute, and each is listed or refused.
use Rattle.std.proofs.Common.{refl, lit<}
use Rattle.std.specs.List.Sorted.{IsStrictlySortedBy}
use Rattle.worked_cases.proofs.Candidates.{candidates, listing_is}
use Rattle.worked_cases.proofs.SmallAnswers.{deva_datta, deva_datta_broken, devadatta, no_devadatta_broken}
use Rattle.worked_cases.proofs.SmallLexicons.{devadatta_is_lexicon}
use Rattle.worked_cases.proofs.cases.a_blank_stands_at_a_seam.Goals as goal

pub returns-clause-unbroken : goal.returns-clause-unbroken
unfolding IsStrictlySortedBy candidates
returns-clause-unbroken c =
    listing_is _ _ _ _ devadatta_is_lexicon ((refl, tt), (tt, tt)) (devadatta, (deva_datta, tt))
    (λ a. (1, lit< tt, refl), (λ a. (0, lit< tt, refl), tt))

pub returns-clause-broken : goal.returns-clause-broken
unfolding IsStrictlySortedBy candidates
returns-clause-broken c =
    listing_is _ _ _ _ devadatta_is_lexicon (tt, tt) (deva_datta_broken, tt)
    (λ a. (0, lit< tt, refl), (λ a. absurd (no_devadatta_broken a), tt))
