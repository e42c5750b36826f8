-- The candidates compute, and each is listed or refused.
use Rattle.std.proofs.Common.{refl, lit<}
use Rattle.std.specs.List.Sorted.{IsStrictlySortedBy}
use Rattle.worked_cases.proofs.Candidates.{candidates, listing_is}
use Rattle.worked_cases.proofs.SmallAnswers.{ca_of_p_iti, no_ca_of_q_iti}
use Rattle.worked_cases.proofs.SmallListings.{listing_of_limited_ceti}
use Rattle.worked_cases.proofs.SmallLexicons.{limited_before_is_lexicon}
use Rattle.worked_cases.proofs.cases.a_rule_is_limited_to_phases.Goals as goal

pub returns-clause-after : goal.returns-clause-after
returns-clause-after c = listing_of_limited_ceti

pub returns-clause-before : goal.returns-clause-before
unfolding IsStrictlySortedBy candidates
returns-clause-before c =
    listing_is _ _ _ _ limited_before_is_lexicon (tt, tt) (ca_of_p_iti, tt)
    (λ a. (0, lit< tt, refl), (λ a. absurd (no_ca_of_q_iti a), tt))
