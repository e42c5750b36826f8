-- How many steps a move of a search takes under an exact guide: so many levels, each at most what a frame takes (own).
use Rattle.std.specs.Prelude.{ℕ, ◌+◌, ◌-◌, ◌*◌, Bool, Option, List, length}
use Rattle.text_definitions.specs.Lines.{Line}
use Rattle.segmentation_definitions.specs.Items.{Choice}
use Rattle.derivation.specs.declared.entrance.Entrance.{Entrance}
use Rattle.annotated_trie.specs.Searched.{SearchedLexicon}
use Rattle.search_frames.specs.Configurations.{NumberedConfiguration}
use Rattle.search_frames.specs.Guided.{IsExactOf}
use Rattle.search_frames.specs.Reached.{rank}
use Rattle.search_frames.specs.Costs.{steps_of_frame}
use Rattle.segmenter.specs.Searches.{SearchValue}

-- the most steps of so many frames
abbrev pub steps_of_levels : SearchedLexicon → ℕ → ℕ → ℕ
steps_of_levels searched most count = count * steps_of_frame searched most

-- how many frames may stand from here on: each rises in rank, up to twice the number of letters
abbrev pub levels_from : Line → NumberedConfiguration → ℕ
levels_from line here = 2 * length line.letters + 1 - rank here

-- how many may stand after the one that stands here
abbrev pub levels_after : Line → NumberedConfiguration → ℕ
levels_after line here = 2 * length line.letters - rank here

-- each guide of which this is known is exact for what is searched
abbrev pub AreKnownExact : (Guide : Type 0) → (Guide → SearchedLexicon → Line → List Choice → Type 0) → (Guide → ℕ → Entrance → Option ℕ → Bool) → SearchValue → Type 0
AreKnownExact Guide known says search =
    (guide : Guide) → known guide search.searched search.line search.choices → IsExactOf search.searched search.line search.choices (says guide)
