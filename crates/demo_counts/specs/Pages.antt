-- What is counted of a page of answers.
use Rattle.std.specs.Prelude.{◌≡◌, ℕ, List, [], length}
use Rattle.text_definitions.specs.Lines.{Line}
use Rattle.lexicon_definitions.specs.Lexicons.{Lexicon}
use Rattle.segmentation_definitions.specs.Derivations.{Step}
use Rattle.segmentation_definitions.specs.Listings.{BeforeFirst, IsPage}
use Rattle.demo_definitions.specs.declared.limits.TheConstants.{DEMO_PAGE}
use Rattle.segmenter.specs.Searches.{SearchValue}
use Rattle.answer_printing.specs.Pages.{HasListed}
use Rattle.demo_counts.specs.declared.counting.PageCount.{PageCount}

-- the search has moved past so many answers, at most count
pub record HasPassed (old new : SearchValue) (count passed : ℕ) : Type 0 where
  pub answers : List (List Step)
  pub many : length answers ≡ passed
  pub listed : HasListed old new count answers

-- these are the answers on the page of count answers after where the search stood
pub record IsCounted (old : SearchValue) (count : ℕ) (page : PageCount) : Type 0 where
  pub answers : List (List Step)
  pub many : length answers ≡ page.answers
  pub is_page : IsPage old.searched.lexicon old.line old.choices old.cursor count answers page.more

-- and on that of the line before the first answer
pub record IsPageCount (lexicon : Lexicon) (line : Line) (page : PageCount) : Type 0 where
  pub answers : List (List Step)
  pub many : length answers ≡ page.answers
  pub is_page : IsPage lexicon line [] BeforeFirst DEMO_PAGE answers page.more
