use Rattle.morphology_definitions.proofs.Inflections.{inflected-once, inflected-length}
use Rattle.morphology_definitions.proofs.inflection.inflected_once.Goals as goal

pub returns : goal.returns
returns c = record { once = inflected-once; length = inflected-length }
