-- It has no more lines than the stems have entries.
use Rattle.demo_definitions.proofs.SourcesRead.{few_lines}
use Rattle.demo_definitions.proofs.laws.the_lexicon_is_small.Goals as goal

pub returns : goal.returns
returns c = few_lines
