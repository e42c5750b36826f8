-- The candidates compute, and each is listed or refused.
use Rattle.std.proofs.Common.{refl, lit<}
use Rattle.std.specs.List.Sorted.{IsStrictlySortedBy}
use Rattle.worked_cases.proofs.Candidates.{candidates, listing_is}
use Rattle.worked_cases.proofs.SmallAnswers.{a_a, a_a_rejected, a_and_a, a_and_a_kept, no_a_a_kept, no_a_and_a_rejected}
use Rattle.worked_cases.proofs.SmallLexicons.{vowel_is_lexicon}
use Rattle.worked_cases.proofs.cases.choices_are_of_items.Goals as goal

pub returns-clause-free : goal.returns-clause-free
unfolding IsStrictlySortedBy candidates
returns-clause-free c =
    listing_is _ _ _ _ vowel_is_lexicon ((refl, tt), (tt, tt)) (a_a, (a_and_a, tt))
    (λ a. (1, lit< tt, refl), (λ a. (0, lit< tt, refl), tt))

pub returns-clause-kept : goal.returns-clause-kept
unfolding IsStrictlySortedBy candidates
returns-clause-kept c =
    listing_is _ _ _ _ vowel_is_lexicon (tt, tt) (a_and_a_kept, tt)
    (λ a. (0, lit< tt, refl), (λ a. absurd (no_a_a_kept a), tt))

pub returns-clause-rejected : goal.returns-clause-rejected
unfolding IsStrictlySortedBy candidates
returns-clause-rejected c =
    listing_is _ _ _ _ vowel_is_lexicon (tt, tt) (a_a_rejected, tt)
    (λ a. absurd (no_a_and_a_rejected a), (λ a. (0, lit< tt, refl), tt))
