-- what is counted up to one more than a lexicon may have is more than that exactly where the pairs are
use Rattle.std.proofs.Common.{arith}
use Rattle.trie_checks.proofs.PairCounts.{many_told}
use Rattle.trie_checks.proofs.pairs.has_too_many_pairs.Goals as goal

pub returns : goal.returns
returns c = record { ok = many_told c.args.store.now 600001 c.in_ok-count.count (omega arith) c.in_ok-count.ensures.ok }
