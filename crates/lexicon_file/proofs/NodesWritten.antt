-- A node that has a number is there, and so are its children; and each root has a number.
use Rattle.std.proofs.Common.{◌≡◌, ℕ, ◌<◌, List, [], length, get_or, refl, sym, subst}
use Rattle.std.specs.Prelude.{All, Contains}
use Rattle.std.proofs.lemmas.List.Elements.{Contains-get_or}
use Rattle.list_laws.proofs.Sorted.{All-from_Contains}
use Rattle.lexicon_definitions.specs.Tries.{Trie, IsTrie, row_of}
use Rattle.lexicon_definitions.proofs.TrieSteps.{child_among-Contains}
use Rattle.shared_trie.specs.CanonicalNodes.{IsCanonical}
use Rattle.shared_trie.proofs.CanonicalSteps.{led_there}
use Rattle.shared_trie.proofs.NumberedTries.{led_to_child}

module _ (trie : Trie) (is : IsTrie trie) (nodes : List ℕ) (canonical : IsCanonical trie nodes) where
  pub node_there : (node : ℕ) → Contains nodes node → node < length trie.rows
  node_there node m = led_there trie is node ((canonical.led_to node).0 m)

  pub children_there : (node : ℕ) → Contains nodes node → All (λ (child : ℕ × ℕ). Contains nodes child.1) (row_of trie.rows node).children
  children_there node m =
      let row = row_of trie.rows node in
      All-from_Contains (λ (child : ℕ × ℕ). Contains nodes child.1) row.children (λ child among.
      let leads = child_among-Contains child.0 child.1 row.children (is.rows.each node (node_there node m)).letters among in
      (canonical.led_to child.1).1 (led_to_child trie node child.0 child.1 ((canonical.led_to node).0 m) leads))

pub root_there : (trie : Trie) (nodes : List ℕ) (phase root : ℕ) → IsCanonical trie nodes → phase < length trie.roots → root ≡ get_or trie.roots phase 0 → Contains nodes root
root_there trie nodes phase root canonical below is =
    let among : Contains trie.roots root = subst (Contains trie.roots) (sym is) (Contains-get_or trie.roots phase 0 below) in
    (canonical.led_to root).1 (record { root = root; is_root = among; word = []; walked = refl })
