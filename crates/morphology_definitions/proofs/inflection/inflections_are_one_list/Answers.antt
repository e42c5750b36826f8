use Rattle.morphology_definitions.proofs.Inflections.{all_inflected-once, all_inflected-exists}
use Rattle.morphology_definitions.proofs.inflection.inflections_are_one_list.Goals as goal

pub returns : goal.returns
returns c = record { once = all_inflected-once; exists = all_inflected-exists }
