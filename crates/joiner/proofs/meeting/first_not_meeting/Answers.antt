-- What is found at a link is the first fault along all.
use Rattle.std.proofs.Common.{◌+◌, refl}
use Rattle.joiner.specs.Faults.{why_of}
use Rattle.joiner.proofs.LinksMet.{link_unmet}
use Rattle.joiner.proofs.meeting.first_not_meeting.Goals as goal

pub returns-in-Some : goal.returns-in-Some
returns-in-Some c =
    link_unmet c.args.rules.now c.args.links.now c.loop-index.index c.index-links-index.result c.loop-index.invariant c.loop-index-test.true c.index-links-index.is
    (c.loop-index.index + 1) (why_of c.in-Some.why) refl c.in-Some.ensures
