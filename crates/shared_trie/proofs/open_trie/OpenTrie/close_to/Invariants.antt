-- The rows of longer fronts are nodes.
use Rattle.std.proofs.Common.{◌≤◌, length}
use Rattle.form_tags.specs.Entries.{text_entry}
use Rattle.shared_trie.specs.OpenForms.{IsEnded}
use Rattle.shared_trie.proofs.open_trie.OpenTrie.close_to.Given as goal

abbrev pub invariant-loop-depth : goal.invariant-loop-depth
invariant-loop-depth l = record {
  from : l.shared ≤ l.depth;
  to : l.depth ≤ length l.last.form;
  ended : IsEnded l.told.value.0 l.told.value.1 (text_entry l.last) l.depth l.self;
}

abbrev pub decreases-loop-depth : goal.decreases-loop-depth
decreases-loop-depth l = l.depth
