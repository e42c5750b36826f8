-- the nodes from here on have their new sets
use Rattle.std.proofs.Common.{◌+◌}
use Rattle.trie_checks.proofs.PutSteps.{AreSetsBetween}
use Rattle.trie_checks.proofs.letters_put.move_up.Given as goal

abbrev pub invariant-loop-number : goal.invariant-loop-number
invariant-loop-number l = AreSetsBetween l.store.rows (l.place + 1) l.number l.letters
