use Rattle.paradigm_file_definitions.proofs.StemsTaken.{all_inflectable_stems}
use Rattle.paradigm_file_definitions.proofs.stems.stems_that_are_read_are_inflectable.Goals as goal

pub returns : goal.returns
returns c = all_inflectable_stems
