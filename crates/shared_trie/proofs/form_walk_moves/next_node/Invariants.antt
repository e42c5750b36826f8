-- Just the forms are to come that were to come at the beginning; and levels are taken off.
use Rattle.std.proofs.Common.{◌≡◌, reverse, length, vec_capacity}
use Rattle.shared_trie.specs.FormWalks.{IsAtForm, forms_to_come}
use Rattle.shared_trie.proofs.form_walk_moves.next_node.Given as goal

abbrev pub invariant-loop-level : goal.invariant-loop-level
invariant-loop-level l =
    IsAtForm l.store.rows l.letters.items (reverse l.levels.items) (vec_capacity l.letters) (vec_capacity l.levels)
    × (forms_to_come l.store.rows l.letters.items (reverse l.levels.items)
    ≡ forms_to_come l.store.rows l.fn.letters.items (reverse l.fn.levels.items))

abbrev pub decreases-loop-level : goal.decreases-loop-level
decreases-loop-level l = length l.levels.items
