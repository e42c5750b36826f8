-- Both ways by induction over the steps in their places.
use Rattle.segmentation_definitions.proofs.LocalChoices.{allowed_if_kept, kept_if_allowed}
use Rattle.segmentation_definitions.proofs.local_tests.choices_are_local.Goals as goal

pub returns : goal.returns
returns c lexicon word choices steps is derives =
    (allowed_if_kept lexicon word choices steps is derives, kept_if_allowed lexicon word choices steps is derives)
