-- the empty suffix where a form ends at the node, and those that go through one of the children so far
use Rattle.std.proofs.Common.{◌≡◌, ◌≢◌, ℕ, ◌↔◌, ◌⊎◌, [], take}
use Rattle.std.specs.Prelude.{Contains}
use Rattle.lexicon_definitions.specs.Tries.{row_of}
use Rattle.annotated_trie.specs.Suffixes.{GoesOnFrom}
use Rattle.annotated_trie.proofs.node_suffixes.suffixes_at.Given as goal

abbrev pub invariant-loop-letter : goal.invariant-loop-letter
invariant-loop-letter l =
    (number : ℕ) → Contains l.numbers.items number
    ↔ (((number ≡ 0) × ((row_of l.store.rows l.fn.node).deltas ≢ []))
    ⊎ GoesOnFrom l.suffixes.keys l.nodes.sets.keys l.nodes.places.items (take l.letter-index l.children) number)
