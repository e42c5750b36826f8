-- A line is cut at its marks in one way.
use Rattle.trie_text_definitions.proofs.NodeLinesApart.{same_row}
use Rattle.trie_text_definitions.proofs.readings.a_node_is_told_by_its_line.Goals as goal

pub returns : goal.returns
returns c = same_row
