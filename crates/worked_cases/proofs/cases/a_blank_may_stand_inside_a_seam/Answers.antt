-- The candidates compute, and each is listed or refused.
use Rattle.std.proofs.Common.{[], refl, lit<, arith}
use Rattle.std.specs.List.Sorted.{IsStrictlySortedBy}
use Rattle.worked_cases.specs.WorkedLexicons.{broken_at, word_devogacchati, devah_lexicon}
use Rattle.worked_cases.proofs.Candidates.{candidates, listing_is}
use Rattle.worked_cases.proofs.SmallAnswers.{devah_gacchati, no_devah_gacchati}
use Rattle.worked_cases.proofs.SmallLexicons.{devah_is_lexicon}
use Rattle.worked_cases.proofs.cases.a_blank_may_stand_inside_a_seam.Goals as goal

pub returns-clause-at_the_seam : goal.returns-clause-at_the_seam
unfolding IsStrictlySortedBy candidates
returns-clause-at_the_seam c blank low high =
    listing_is _ _ _ _ devah_is_lexicon (tt, tt) (devah_gacchati blank low high, tt)
    (λ a. (0, lit< tt, refl), tt)

pub returns-clause-before : goal.returns-clause-before
unfolding IsStrictlySortedBy candidates
returns-clause-before c blank low =
    listing_is devah_lexicon (broken_at blank word_devogacchati) [] [] devah_is_lexicon tt tt
    (λ a. let seam = no_devah_gacchati blank a in absurd (omega arith), tt)

pub returns-clause-following : goal.returns-clause-following
unfolding IsStrictlySortedBy candidates
returns-clause-following c blank high =
    listing_is devah_lexicon (broken_at blank word_devogacchati) [] [] devah_is_lexicon tt tt
    (λ a. let seam = no_devah_gacchati blank a in absurd (omega arith), tt)
