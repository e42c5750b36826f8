-- The phases so far have their roots.
use Rattle.shared_trie.specs.OpenForms.{IsBetween}
use Rattle.shared_trie.proofs.open_trie.OpenTrie.fill_roots.Given as goal

abbrev pub invariant-loop : goal.invariant-loop
invariant-loop l = IsBetween l.fn.told.value.0 l.fn.told.value.1 l.counter l.self
