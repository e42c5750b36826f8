-- Both ways by induction over the steps in their places.
use Rattle.segmentation_definitions.proofs.LocalBlanks.{locally_from_seams, seams_from_locally}
use Rattle.segmentation_definitions.proofs.local_tests.blanks_are_local.Goals as goal

pub returns : goal.returns
returns c lexicon line steps is of_line derives =
    (locally_from_seams lexicon line steps is derives, seams_from_locally lexicon line steps is of_line derives)
