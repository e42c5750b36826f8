-- The candidates compute, and each is listed or refused.
use Rattle.std.proofs.Common.{refl, lit<}
use Rattle.std.specs.List.Sorted.{IsStrictlySortedBy}
use Rattle.worked_cases.proofs.Candidates.{candidates, listing_is}
use Rattle.worked_cases.proofs.SmallAnswers.{ca_iti_twofold}
use Rattle.worked_cases.proofs.SmallLexicons.{twofold_is_lexicon}
use Rattle.worked_cases.proofs.cases.an_answer_is_listed_once.Goals as goal

pub returns : goal.returns
unfolding IsStrictlySortedBy candidates
returns c =
    listing_is _ _ _ _ twofold_is_lexicon (tt, tt) (ca_iti_twofold, tt)
    (λ a. (0, lit< tt, refl), tt)
