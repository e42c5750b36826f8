-- no bit is set
use Rattle.trie_checks.proofs.NumberBits.{no_number}
use Rattle.trie_checks.proofs.number_set.NumberSet.new.Goals as goal

pub returns : goal.returns
returns c n = no_number n
