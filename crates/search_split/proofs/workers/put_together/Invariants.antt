-- As many places stay, and what is listed at each, in both lists, is right wherever it was.
use Rattle.std.proofs.Common.{◌≡◌, ℕ, List, length}
use Rattle.text_definitions.specs.Lines.{Line}
use Rattle.segmentation_definitions.specs.Items.{Choice}
use Rattle.annotated_trie.specs.Searched.{SearchedLexicon}
use Rattle.search_split.specs.declared.start.Start.{Start}
use Rattle.search_split.specs.Listing.{AreFound}
use Rattle.search_split.proofs.workers.put_together.Given as goal

abbrev pub invariant-loop-place : goal.invariant-loop-place
invariant-loop-place l = record {
  count : length l.found.items ≡ length l.fn.found.items;
  others : length l.others.items ≡ length l.fn.found.items;
  found : (searched : SearchedLexicon) (line : Line) (choices : List Choice) (depth : ℕ) (starts : List Start)
      → AreFound searched line choices depth starts l.fn.found.items → AreFound searched line choices depth starts l.fn.others.items
      → AreFound searched line choices depth starts l.found.items × AreFound searched line choices depth starts l.others.items;
}
