-- What contracts see of the rows of a path.
use Rattle.std.specs.Prelude.{List, map}
use Rattle.shared_trie.specs.OpenPaths.{PathRow}
use Rattle.shared_trie.specs.declared.open_path.OpenRow.{OpenRow}

-- the rows
abbrev pub path_of : List OpenRow → List PathRow
path_of rows = map (λ (row : OpenRow). record { list = row.list; children = row.children.items }) rows
