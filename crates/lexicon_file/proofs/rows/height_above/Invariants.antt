-- The height so far is that above the children so far.
use Rattle.std.proofs.Common.{◌≡◌, take}
use Rattle.trie_text_definitions.specs.NodeLines.{heights, node_lines}
use Rattle.trie_text_definitions.specs.NodeValues.{height_over}
use Rattle.lexicon_file.proofs.rows.height_above.Given as goal

abbrev pub invariant-loop-child : goal.invariant-loop-child
invariant-loop-child l = l.height ≡ height_over (heights (node_lines l.trie.rows)) (take l.child-index l.children)
