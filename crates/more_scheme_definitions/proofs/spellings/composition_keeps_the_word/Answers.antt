-- Texts with one canonical decomposition have one composed text.
use Rattle.more_scheme_definitions.proofs.ComposedSpellings.{equivalent_texts_are_read_alike}
use Rattle.more_scheme_definitions.proofs.spellings.composition_keeps_the_word.Goals as goal

pub returns : goal.returns
returns c = equivalent_texts_are_read_alike
