-- The entries of the sources are one list, and phases with the same entries are one.
use Rattle.run_definitions.proofs.OneSourceLexicon.{one_lexicon}
use Rattle.run_definitions.proofs.laws.sources_have_one_lexicon.Goals as goal

pub returns : goal.returns
returns c = one_lexicon
