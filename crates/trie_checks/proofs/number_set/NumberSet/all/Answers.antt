-- each bit is set
use Rattle.trie_checks.proofs.NumberBits.{every_has}
use Rattle.trie_checks.proofs.number_set.NumberSet.all.Goals as goal

pub returns : goal.returns
returns c n low = every_has n low
