-- A copy of a search's state stands where the original does.
use Rattle.std.proofs.Common.{◌≡◌, List}
use Rattle.text_definitions.specs.Lines.{Line}
use Rattle.segmentation_definitions.specs.Items.{Choice}
use Rattle.annotated_trie.specs.Searched.{SearchedLexicon}
use Rattle.search_frames.specs.Copies.{IsCopyOf}
use Rattle.search_frames.specs.declared.resumption.Resumption.{Resumption}
use Rattle.segmenter.specs.Searches.{IsStackOf, cursor_of}
use Rattle.segmenter.proofs.SearchStacks.{copy_stands}

pub copy_is_stack : (searched : SearchedLexicon) (line : Line) (choices : List Choice) (old new : Resumption) → IsCopyOf old new
    → IsStackOf searched line choices old → IsStackOf searched line choices new
copy_is_stack searched line choices old new copy is = (copy_stands searched line old new copy choices is).is_stack

pub copy_stands_there : (searched : SearchedLexicon) (line : Line) (choices : List Choice) (old new : Resumption) → IsCopyOf old new
    → IsStackOf searched line choices old → cursor_of searched line new ≡ cursor_of searched line old
copy_stands_there searched line choices old new copy is = (copy_stands searched line old new copy choices is).cursor
