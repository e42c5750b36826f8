-- `lexicon_shared` has the proof.
use Rattle.annotated_trie.proofs.SharedLexicons.{lexicon_shared}
use Rattle.annotated_trie.proofs.sharing.lexicons_are_shared.Goals as goal

pub returns : goal.returns
returns c = lexicon_shared
