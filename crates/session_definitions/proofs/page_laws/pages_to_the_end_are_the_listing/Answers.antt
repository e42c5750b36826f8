-- The pages are together the listing above where the first of them begins, of which there is one.
use Rattle.std.proofs.Common.{subst}
use Rattle.segmentation_definitions.specs.Listings.{Cursor, IsListingAbove}
use Rattle.session_definitions.specs.States.{after_resume}
use Rattle.session_definitions.proofs.PagesReplied.{pages_above, one_list_of_pages}
use Rattle.session_definitions.proofs.page_laws.pages_to_the_end_are_the_listing.Goals as goal

pub returns-clause-whole : goal.returns-clause-whole
returns-clause-whole c lexicon line state answers begins are =
    subst (λ (cursor : Cursor). IsListingAbove lexicon line state.choices cursor answers) begins
    (pages_above lexicon line state answers are)

pub returns-clause-above : goal.returns-clause-above
returns-clause-above c = pages_above

pub returns-clause-resumed : goal.returns-clause-resumed
returns-clause-resumed c lexicon mark cursor answers is are = pages_above lexicon mark.line (after_resume mark cursor) answers are

pub returns-clause-one : goal.returns-clause-one
returns-clause-one c = one_list_of_pages
