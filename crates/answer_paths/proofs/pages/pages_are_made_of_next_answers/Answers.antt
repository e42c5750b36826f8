-- By what is above the last of the first answers.
use Rattle.answer_paths.proofs.NextPages.{cursor_after_last, first_of_none, first_with_next, page_if_full, page_if_ended}
use Rattle.answer_paths.proofs.pages.pages_are_made_of_next_answers.Goals as goal

pub returns-clause-none : goal.returns-clause-none
returns-clause-none c = first_of_none

pub returns-clause-next : goal.returns-clause-next
returns-clause-next c lexicon line choices cursor answers next firsts is =
    (first_with_next lexicon line choices cursor answers firsts next is, cursor_after_last cursor answers next)

pub returns-clause-full : goal.returns-clause-full
returns-clause-full c lexicon line choices cursor answers more firsts left =
    page_if_full lexicon line choices cursor answers firsts more left

pub returns-clause-ended : goal.returns-clause-ended
returns-clause-ended c lexicon line choices cursor answers count firsts within none =
    page_if_ended lexicon line choices cursor answers firsts count within none
