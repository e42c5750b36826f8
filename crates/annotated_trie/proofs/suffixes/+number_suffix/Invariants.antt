-- what follows the first letter is shorter
use Rattle.std.proofs.Common.{length}
use Rattle.annotated_trie.proofs.suffixes.+number_suffix.Given as goal

abbrev pub decreases-number_suffix : goal.decreases-number_suffix
decreases-number_suffix l = length l.word.now
