-- The candidates compute, and each is listed or refused.
use Rattle.std.proofs.Common.{[]}
use Rattle.std.specs.List.Sorted.{IsStrictlySortedBy}
use Rattle.worked_cases.specs.WorkedLexicons.{unbroken, word_covapi, overlap_lexicon}
use Rattle.worked_cases.proofs.Candidates.{candidates, listing_is}
use Rattle.worked_cases.proofs.SmallAnswers.{no_ca_u_u_api}
use Rattle.worked_cases.proofs.SmallLexicons.{overlap_is_lexicon}
use Rattle.worked_cases.proofs.cases.an_overlap_derives_no_word.Goals as goal

pub returns-clause-covapi : goal.returns-clause-covapi
unfolding IsStrictlySortedBy candidates
returns-clause-covapi c =
    listing_is overlap_lexicon (unbroken word_covapi) [] [] overlap_is_lexicon tt tt (λ a. absurd (no_ca_u_u_api a), tt)
