-- Nothing is open.
use Rattle.shared_trie.proofs.EndedForms.{begun}
use Rattle.shared_trie.proofs.open_trie.OpenTrie.new.Goals as goal

pub returns : goal.returns
returns c = λ phases. begun phases _ c.new.ensures.value c.new-2.ensures c.new-3.ensures c.in_ok-new.ensures c.new-5.ensures.items
