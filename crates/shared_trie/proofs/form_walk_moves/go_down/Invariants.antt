-- From the node reached so far just the forms go on that are left; and children have smaller numbers.
use Rattle.std.proofs.Common.{◌≡◌, reverse, vec_capacity}
use Rattle.shared_trie.specs.FormWalks.{IsGoingDown, forms_from}
use Rattle.shared_trie.proofs.form_walk_moves.go_down.Given as goal

abbrev pub invariant-loop-letters : goal.invariant-loop-letters
invariant-loop-letters l =
    IsGoingDown l.store.rows l.letters.items (reverse l.levels.items) (vec_capacity l.letters) (vec_capacity l.levels) l.node
    × (forms_from l.store.rows l.letters.items (reverse l.levels.items) l.node
    ≡ forms_from l.store.rows l.fn.letters.items (reverse l.fn.levels.items) l.fn.node)

abbrev pub decreases-loop-letters : goal.decreases-loop-letters
decreases-loop-letters l = l.node
