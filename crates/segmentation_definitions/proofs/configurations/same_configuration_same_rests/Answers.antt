-- The law of configurations.
use Rattle.segmentation_definitions.proofs.SameRests.{same_rests}
use Rattle.segmentation_definitions.proofs.configurations.same_configuration_same_rests.Goals as goal

pub returns : goal.returns
returns c = same_rests
