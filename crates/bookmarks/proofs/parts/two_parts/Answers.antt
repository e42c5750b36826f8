-- A second mark makes a third part.
use Rattle.bookmarks.proofs.PartLemmas.{not_two}
use Rattle.bookmarks.proofs.parts.two_parts.Goals as goal

pub returns-in-Some-cut : goal.returns-in-Some-cut
returns-in-Some-cut c =
    not_two c.args.mark c.args.text.now c.in-Some.first.now c.in-Some.second.now c.in-Some-cut.field-0.0.now c.in-Some-cut.field-0.1.now c.in-Some.ensures c.in-Some-cut.ensures
