-- no bit is set
use Rattle.std.proofs.lemmas.Nat.Bits.{bit_at-zero}
use Rattle.shared_trie.specs.LetterSets.{letters_in}
use Rattle.shared_trie.proofs.SetPlaces.{no_places}
use Rattle.shared_trie.proofs.letter_set.LetterSet.new.Goals as goal

pub returns : goal.returns
unfolding letters_in
returns c = no_places 64 0 0 bit_at-zero
