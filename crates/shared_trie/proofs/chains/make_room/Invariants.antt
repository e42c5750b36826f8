-- The numbers that were put into the new chains are the first ones.
use Rattle.std.proofs.Common.{◌≡◌, ◌<◌, length, take}
use Rattle.shared_trie.specs.Chains.{AreChained}
use Rattle.shared_trie.specs.ChainLinks.{befores_of, hashes_of}
use Rattle.shared_trie.proofs.chains.make_room.Given as goal

abbrev pub invariant-loop-link : goal.invariant-loop-link
invariant-loop-link l = record {
  chained : AreChained l.more_heads.items (hashes_of l.more_links.items) (befores_of l.more_links.items);
  some : 0 < length l.more_heads.items;
  same : hashes_of l.more_links.items ≡ hashes_of (take l.link-index l.fn.links.items);
}
