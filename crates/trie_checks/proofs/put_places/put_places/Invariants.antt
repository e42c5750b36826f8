-- the places of the nodes so far
use Rattle.trie_checks.specs.LettersPut.{ArePlaces}
use Rattle.trie_checks.proofs.put_places.put_places.Given as goal

abbrev pub invariant-loop-number : goal.invariant-loop-number
invariant-loop-number l = ArePlaces l.store.rows l.number l.places.items
