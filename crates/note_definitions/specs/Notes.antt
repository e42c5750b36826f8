-- Notes of finished readings: a line and choices that leave one answer, with this answer (own; choices after Goyal and Huet
-- 2016).
use Rattle.std.specs.Prelude.{◌≡◌, ◌<◌, ◌≤◌, List, length, All}
use Rattle.text_definitions.specs.Lines.{Line, IsLine}
use Rattle.lexicon_definitions.specs.Lexicons.{Lexicon}
use Rattle.segmentation_definitions.specs.declared.limits.TheConstants.{MOST_CHOICES}
use Rattle.segmentation_definitions.specs.Derivations.{Step}
use Rattle.segmentation_definitions.specs.Items.{Choice}
use Rattle.segmentation_definitions.specs.Answers.{IsAnswer}
use Rattle.bookmark_definitions.specs.Bookmarks.{IsItemWithinBounds}

-- a line, the reader's choices, oldest first, and an answer
pub record Note : Type 0 where
  pub line : Line
  pub choices : List Choice
  pub steps : List Step

-- the steps are an answer, and there is no other
pub record IsOnlyAnswer (lexicon : Lexicon) (line : Line) (choices : List Choice) (steps : List Step) : Type 0 where
  pub answer : IsAnswer lexicon line choices steps
  pub only : (other : List Step) → IsAnswer lexicon line choices other → other ≡ steps

-- the choice could be one over this lexicon: its item is within the limits, and its phase is one of the lexicon's
pub record IsChoiceOver (lexicon : Lexicon) (choice : Choice) : Type 0 where
  pub item : IsItemWithinBounds choice.item
  pub phase : choice.item.phase < length lexicon.phases

-- a note over a lexicon has a line, not too many choices over the lexicon, and the one answer that these leave
pub record IsNote (lexicon : Lexicon) (note : Note) : Type 0 where
  pub line : IsLine note.line
  pub few_choices : length note.choices ≤ MOST_CHOICES
  pub choices : All (IsChoiceOver lexicon) note.choices
  pub answer : IsOnlyAnswer lexicon note.line note.choices note.steps
