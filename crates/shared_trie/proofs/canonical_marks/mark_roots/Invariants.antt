-- So far just the roots up to the index are marked.
use Rattle.std.proofs.Common.{length, take}
use Rattle.shared_trie.proofs.MarkSteps.{AreJustMarked}
use Rattle.shared_trie.proofs.canonical_marks.mark_roots.Given as goal

abbrev pub invariant-loop-root : goal.invariant-loop-root
invariant-loop-root l = AreJustMarked (length l.store.rows) (take l.root-index l.root-items) l.marks.items
