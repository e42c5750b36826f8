-- The text is cut at its first mark.
use Rattle.bookmarks.proofs.PartLemmas.{one_part, first_part}
use Rattle.bookmarks.proofs.parts.cut.Goals as goal

pub returns-in_default : goal.returns-in_default
returns-in_default c = one_part c.args.mark c.args.text.now c.in_default.ensures

pub returns : goal.returns
returns c = first_part c.args.mark c.args.text.now c.in-Some.first.now c.in-Some.rest.now c.in-Some.ensures
