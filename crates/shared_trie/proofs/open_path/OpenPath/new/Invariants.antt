-- The rows so far are empty.
use Rattle.std.proofs.Common.{◌≡◌, replicate}
use Rattle.shared_trie.specs.OpenPaths.{no_row}
use Rattle.shared_trie.specs.OpenRows.{path_of}
use Rattle.shared_trie.proofs.open_path.OpenPath.new.Given as goal

abbrev pub invariant-loop : goal.invariant-loop
invariant-loop l = path_of l.rows.items ≡ replicate l.counter no_row
