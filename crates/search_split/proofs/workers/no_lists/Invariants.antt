-- A place for each part so far, where nothing is listed.
use Rattle.std.proofs.Common.{ℕ, List, take}
use Rattle.text_definitions.specs.Lines.{Line}
use Rattle.segmentation_definitions.specs.Items.{Choice}
use Rattle.annotated_trie.specs.Searched.{SearchedLexicon}
use Rattle.search_split.specs.Listing.{AreFound}
use Rattle.search_split.proofs.workers.no_lists.Given as goal

abbrev pub invariant-loop-start : goal.invariant-loop-start
invariant-loop-start l = (searched : SearchedLexicon) (line : Line) (choices : List Choice) (depth : ℕ)
    → AreFound searched line choices depth (take l._start-index l.starts) l.found.items
