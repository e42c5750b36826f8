-- The lines between two changes write a part of the output, which is pages and replies that keep the place.
use Rattle.session_definitions.proofs.PagesPrinted.{are_pages, pages_printed, listing_printed, part_of_session}
use Rattle.session_definitions.proofs.page_laws.a_session_prints_the_listing.Goals as goal

pub returns-clause-session : goal.returns-clause-session
returns-clause-session c lexicon input output end before between following front state line session lines replies has leaves =
    let (printed, rest, last, parts, these) = part_of_session lexicon input output end before between following front state session lines replies in
    let (pages, prints) = pages_printed lexicon line state between printed last has leaves these in
    (printed, rest, pages, parts, prints)

pub returns-clause-pages : goal.returns-clause-pages
returns-clause-pages c = are_pages

pub returns-clause-listing : goal.returns-clause-listing
returns-clause-listing c = listing_printed
