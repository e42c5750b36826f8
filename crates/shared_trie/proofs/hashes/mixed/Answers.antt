-- The sum and the product wrap.
use Rattle.std.proofs.Common.{refl}
use Rattle.shared_trie.specs.Hashes.{mixed}
use Rattle.shared_trie.proofs.hashes.mixed.Goals as goal

pub returns : goal.returns
unfolding mixed
returns c = refl
