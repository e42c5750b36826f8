-- the sets are those of one letter more than passes are left
use Rattle.std.proofs.Common.{◌+◌}
use Rattle.trie_checks.specs.LettersPut.{AreSetsPut}
use Rattle.trie_checks.proofs.put_back.has_put_back.Given as goal

abbrev pub invariant-loop-place : goal.invariant-loop-place
invariant-loop-place l = AreSetsPut l.store.rows (l.place + 1) l.letters.items
