-- By the law over rows.
use Rattle.lexicon_definitions.proofs.TrieSuffixes.{one_from_suffixes}
use Rattle.lexicon_definitions.proofs.trie_laws.nodes_are_told_by_suffixes.Goals as goal

pub returns : goal.returns
returns c = one_from_suffixes
