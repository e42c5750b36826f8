-- Where no front is found that takes no letter, there is none (`Walks`).
use Rattle.search_frames.specs.Frames.{numbered_of}
use Rattle.summary_chart.proofs.Walks.{no_fronts_before}
use Rattle.summary_chart.proofs.walking.walk_fronts.Goals as goal

pub returns-in_default-clause-fronts : goal.returns-in_default-clause-fronts
returns-in_default-clause-fronts g c =
    let searched = c.args.site.lexicon.now in
    no_fronts_before searched c.requires.site.searched c.args.site.line.now (numbered_of searched c.args.site.place.now) c.args.phase c.args.limit
    c.clear.new.self.items c.clear.ensures.items (c.in_default.ensures.front c.args.limit c.requires.low)
