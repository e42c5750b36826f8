-- Both say the same.
use Rattle.std.proofs.Common.{refl}
use Rattle.shared_trie.specs.Hashes.{folded}
use Rattle.shared_trie.proofs.hashes.folded.Goals as goal

pub returns : goal.returns
unfolding folded
returns c = refl
