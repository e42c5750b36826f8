-- The line of a node, and the order of nodes: by height, and then by the bytes of their lines (own).
use Rattle.std.specs.Prelude.{ℕ, List, [], ◌∷◌, ◌++◌, map, codes, decimal}
use Rattle.std.specs.List.{join_with_byte}
use Rattle.std.specs.declared.cmp.Ordering.{Ordering}
use Rattle.std.specs.Ordering.{nat_cmp, ordering_then}
use Rattle.std.specs.Cmp.Lexicographic.{slice_cmp}
use Rattle.text_definitions.specs.Slp1.{slp1_of_word}
use Rattle.lexicon_definitions.specs.Deltas.{Delta}
use Rattle.lexicon_definitions.specs.Tries.{Row}
use Rattle.trie_text_definitions.specs.NodeValues.{values_of, height_over}

-- the texts with `,` between them, or `-` where there is none
abbrev pub listed : List (List ℕ) → List ℕ
listed [] = codes "-"
listed (text ∷ texts) = join_with_byte 44 (text ∷ texts)

-- `CUT:APPEND:TAG`, letters in SLP1
abbrev pub delta_text : Delta → List ℕ
delta_text delta = decimal delta.cut ++ codes ":" ++ slp1_of_word delta.append ++ codes ":" ++ delta.tag

-- `X=N`, the letter in SLP1
abbrev pub child_text : ℕ × ℕ → List ℕ
child_text child = slp1_of_word (child.0 ∷ []) ++ codes "=" ++ decimal child.1

-- `node DELTAS CHILDREN`
abbrev pub node_line : Row → List ℕ
node_line row = codes "node " ++ listed (map delta_text row.deltas) ++ codes " " ++ listed (map child_text row.children)

-- the height of a node, and the bytes of its line
pub record NodeLine : Type 0 where
  pub height : ℕ
  pub bytes : List ℕ

-- nodes are ordered by height, then by the bytes of their lines
abbrev pub compare_node_lines : NodeLine → NodeLine → Ordering
compare_node_lines left right = ordering_then (nat_cmp left.height right.height) (slice_cmp nat_cmp left.bytes right.bytes)

-- the heights of nodes
abbrev pub heights : List NodeLine → List ℕ
heights lines = map (λ (line : NodeLine). line.height) lines

-- a node's height over the nodes before, and its line
abbrev pub node_line_over : List NodeLine → Row → NodeLine
node_line_over lines row = record { height = height_over (heights lines) row.children; bytes = node_line row }

-- the heights and lines of all nodes, by number
abbrev pub node_lines : List Row → List NodeLine
node_lines rows = values_of node_line_over rows
