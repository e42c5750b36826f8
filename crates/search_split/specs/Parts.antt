-- Parts of a search: the answers of one front each, to be listed from the first of them on (own).
use Rattle.std.specs.Prelude.{◌≡◌, ℕ, Option, Some, None, List, map, All}
use Rattle.text_definitions.specs.Lines.{Line}
use Rattle.segmentation_definitions.specs.Derivations.{Step}
use Rattle.segmentation_definitions.specs.Items.{Choice}
use Rattle.segmentation_definitions.specs.Listings.{Key, Cursor, BeforeFirst, AtAnswer}
use Rattle.front_definitions.specs.Fronts.{IsFirstOfFront, AreNextFronts}
use Rattle.derivation.specs.Steps.{keys_meant}
use Rattle.annotated_trie.specs.Searched.{SearchedLexicon}
use Rattle.segmenter.specs.Searches.{IsStackOf, cursor_of}
use Rattle.search_frames.specs.Guided.{IsGuideOf}
use Rattle.summary_chart.specs.Charts.{CoversPlace, says_of}
use Rattle.summary_chart.specs.PlaceWays.{ChartValue, IsChartOf}
use Rattle.search_split.specs.declared.part.Part.{Part}
use Rattle.search_split.specs.declared.part.Parts.{Parts}

-- the chart is a guide for the lexicon, the line and the choices, and is theirs
pub record IsChartFor (searched : SearchedLexicon) (line : Line) (choices : List Choice) (chart : ChartValue) : Type 0 where
  pub guide : IsGuideOf searched line choices (CoversPlace chart.table) (says_of chart.table)
  pub is : IsChartOf searched line choices chart

-- the front of a part
abbrev pub front_in : Part → List Key
front_in part = keys_meant part.front.items

-- the part's search stands at the first answer that has its front
pub record IsPart (searched : SearchedLexicon) (line : Line) (choices : List Choice) (depth : ℕ) (part : Part) : Type 0 where
  pub stack : IsStackOf searched line choices part.from
  pub answer : List Step
  pub at : cursor_of searched line part.from ≡ AtAnswer answer
  pub first : IsFirstOfFront searched.lexicon line choices depth (front_in part) answer

-- these are the parts of the first fronts after the earlier one, or from the first on, as many as most; more says whether a front
-- is left
pub record AreNextParts (searched : SearchedLexicon) (line : Line) (choices : List Choice) (depth : ℕ) (earlier : Option (List Key))
    (most : ℕ) (parts : Parts) : Type 0 where
  pub fronts : AreNextFronts searched.lexicon line choices depth earlier most (map front_in parts.list.items) parts.more
  pub each : All (IsPart searched line choices depth) parts.list.items

-- where the part's search stands, or before the first answer where there is no part
abbrev pub cursor_of_part : SearchedLexicon → Line → Option Part → Cursor
cursor_of_part searched line None = BeforeFirst
cursor_of_part searched line (Some part) = cursor_of searched line part.from
