-- The box has the trie that was made.
use Rattle.std.proofs.Common.{[], replicate, sym, subst}
use Rattle.shared_trie.specs.OpenForms.{IsBetween}
use Rattle.shared_trie.specs.declared.open_trie.OpenTrie.{OpenTrie}
use Rattle.shared_trie.proofs.store_builder.begin.Goals as goal

pub returns : goal.returns
returns c = λ phases. subst (λ (begun : OpenTrie). IsBetween (replicate phases []) 0 0 begun) (sym c.in_ok-new.ensures.ok) (c.in_ok-open_trie.ensures phases)
