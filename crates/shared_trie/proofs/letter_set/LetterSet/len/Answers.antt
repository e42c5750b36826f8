-- there are as many letters as bits
use Rattle.std.proofs.Common.{sym, arith}
use Rattle.shared_trie.specs.LetterSets.{letters_in}
use Rattle.shared_trie.proofs.SetPlaces.{places_counted}
use Rattle.shared_trie.proofs.letter_set.LetterSet.len.Goals as goal

pub returns-clause-value : goal.returns-clause-value
unfolding letters_in
returns-clause-value c = sym (places_counted 64 0 c.args.self.bits (omega arith))
