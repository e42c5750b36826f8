-- The program's steps have the keys of the answer.
use Rattle.search_split.proofs.CurrentFronts.{is_front_of_current}
use Rattle.search_split.proofs.listing.is_in_front.Goals as goal

pub returns-in-Some : goal.returns-in-Some
returns-in-Some g c =
    is_front_of_current c.args.search.now c.args.depth c.in-Some.steps.now c.args.front.now c.has_front.result c.in-Some.ensures.answer c.has_front.ensures
