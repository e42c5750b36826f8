-- What is left of the children completes the hash.
use Rattle.std.proofs.Common.{◌≡◌, drop}
use Rattle.shared_trie.specs.Hashes.{hash_from, mixed}
use Rattle.shared_trie.proofs.hashes.hash_row.Given as goal

abbrev pub invariant-loop-child : goal.invariant-loop-child
invariant-loop-child l = hash_from l.hash (drop l.child-index l.children) ≡ hash_from (mixed 0 l.list) l.children
