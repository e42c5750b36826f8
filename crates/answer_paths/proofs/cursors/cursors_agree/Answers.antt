-- Each answer is taken to its keys, and each path to its answer.
use Rattle.std.proofs.Common.{[], subst}
use Rattle.segmentation_definitions.specs.Listings.{compare_keys}
use Rattle.listing_laws.specs.Cursors.{IsAbove as IsPathAbove, IsFirst, IsListingAbove as IsPathListingAbove}
use Rattle.answer_paths.specs.Fronts.{ways_of}
use Rattle.answer_paths.specs.Cursors.{path_cursor}
use Rattle.answer_paths.proofs.NextPaths.{path_above, answer_above, first_if_next, next_of_first, no_path_above, no_answer_above, path_listing, listing_of_paths}
use Rattle.answer_paths.proofs.cursors.cursors_agree.Goals as goal

pub returns-clause-above : goal.returns-clause-above
returns-clause-above c rules cursor steps = (path_above rules cursor steps, answer_above rules cursor steps)

pub returns-clause-next : goal.returns-clause-next
returns-clause-next c lexicon line choices cursor path is = (
  λ first. let found = next_of_first lexicon line choices cursor path is first in (found.steps, found.next, found.keys),
  λ found. subst (IsFirst (ways_of lexicon line choices) [] (IsPathAbove compare_keys (path_cursor lexicon.rules cursor))) found.2
      (first_if_next lexicon line choices is cursor found.0 found.1),
)

pub returns-clause-none : goal.returns-clause-none
returns-clause-none c lexicon line choices cursor is =
    (no_answer_above lexicon line choices is cursor, no_path_above lexicon line choices is cursor)

pub returns-clause-listing : goal.returns-clause-listing
returns-clause-listing c lexicon line choices cursor paths is = (
  λ all. let found = listing_of_paths lexicon line choices cursor paths is all in (found.answers, found.listing, found.keys),
  λ found. subst (IsPathListingAbove (ways_of lexicon line choices) [] (path_cursor lexicon.rules cursor)) found.2
      (path_listing lexicon line choices cursor found.0 is found.1),
)
