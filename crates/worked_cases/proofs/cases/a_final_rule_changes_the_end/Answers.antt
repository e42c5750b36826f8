-- The candidates compute, and each is listed or refused.
use Rattle.std.proofs.Common.{refl, lit<}
use Rattle.std.specs.List.Sorted.{IsStrictlySortedBy}
use Rattle.worked_cases.proofs.Candidates.{candidates, listing_is}
use Rattle.worked_cases.proofs.SmallAnswers.{devas, devas_changed}
use Rattle.worked_cases.proofs.SmallLexicons.{final_is_lexicon}
use Rattle.worked_cases.proofs.cases.a_final_rule_changes_the_end.Goals as goal

pub returns-clause-changed : goal.returns-clause-changed
unfolding IsStrictlySortedBy candidates
returns-clause-changed c =
    listing_is _ _ _ _ final_is_lexicon (tt, tt) (devas_changed, tt)
    (λ a. (0, lit< tt, refl), tt)

pub returns-clause-unchanged : goal.returns-clause-unchanged
unfolding IsStrictlySortedBy candidates
returns-clause-unchanged c =
    listing_is _ _ _ _ final_is_lexicon (tt, tt) (devas, tt)
    (λ a. (0, lit< tt, refl), tt)
