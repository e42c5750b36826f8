-- By the lemma on what the frames kept stand for.
use Rattle.listing_laws.proofs.Skips.{skips}
use Rattle.listing_laws.proofs.standing_at.first_branches_are_skipped.Goals as goal

pub returns : goal.returns
returns g c orderly start frames at last rest here depth leads branch is e count =
    skips orderly start frames at last rest here depth leads branch is e count
