-- The candidates compute, and each is listed or refused.
use Rattle.std.proofs.Common.{refl, lit<}
use Rattle.std.specs.List.Sorted.{IsStrictlySortedBy}
use Rattle.worked_cases.proofs.Candidates.{candidates, listing_is}
use Rattle.worked_cases.proofs.SmallAnswers.{ca_iti}
use Rattle.worked_cases.proofs.SmallLexicons.{ceti_is_lexicon}
use Rattle.worked_cases.proofs.cases.ca_and_iti_are_ceti.Goals as goal

pub returns-clause-ceti : goal.returns-clause-ceti
unfolding IsStrictlySortedBy candidates
returns-clause-ceti c =
    listing_is _ _ _ _ ceti_is_lexicon (tt, tt) (ca_iti, tt)
    (λ a. (0, lit< tt, refl), tt)

pub returns-clause-cet : goal.returns-clause-cet
unfolding IsStrictlySortedBy candidates
returns-clause-cet c =
    listing_is _ _ _ _ ceti_is_lexicon tt tt
    tt
