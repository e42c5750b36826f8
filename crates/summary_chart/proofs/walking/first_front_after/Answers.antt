-- What the rule before supplies leads to the front's node, or nowhere, and then no key is possible (`Walks`).
use Rattle.std.proofs.Common.{refl}
use Rattle.search_frames.specs.Frames.{numbered_of}
use Rattle.summary_chart.proofs.Walks.{no_first, first_near}
use Rattle.summary_chart.proofs.walking.first_front_after.Goals as goal

pub returns-in_default-clause-front : goal.returns-in_default-clause-front
returns-in_default-clause-front g c limit near =
    let searched = c.args.site.lexicon.now in
    no_first searched c.requires.site.searched c.args.site.line.now (numbered_of searched c.args.site.place.now) c.args.phase limit c.in_default.ensures.value

pub returns-clause-front : goal.returns-clause-front
returns-clause-front g c limit near =
    let searched = c.args.site.lexicon.now in
    first_near searched c.requires.site.searched c.args.site.line.now (numbered_of searched c.args.site.place.now) c.args.phase limit _ refl refl c.requires.phase
    c.requires.site.place.letters near c.in-Some.ensures.value
