-- No number from the place on has the hash, and the next one to look at is in its bucket.
use Rattle.std.proofs.Common.{length, unwrap_or}
use Rattle.shared_trie.specs.ChainLinks.{hashes_of}
use Rattle.shared_trie.proofs.ChainLaws.{IsSought}
use Rattle.shared_trie.proofs.chains.Chains.last_with.Given as goal

abbrev pub invariant-loop-place : goal.invariant-loop-place
invariant-loop-place l =
    IsSought (length l.self-inside.heads.items) (hashes_of l.self-inside.links.items) l.hash (unwrap_or l.fn.before (length (hashes_of l.self-inside.links.items))) l.place

abbrev pub decreases-loop-place : goal.decreases-loop-place
decreases-loop-place l = l.place
