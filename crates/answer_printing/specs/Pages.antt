-- What is printed from where a search stands: the first answers after it, and a page of them (own).
use Rattle.std.specs.Prelude.{◌≡◌, ℕ, ◌<◌, ◌≤◌, Bool, Some, List, [], ◌∷◌, ◌++◌, length}
use Rattle.segmentation_definitions.specs.Derivations.{Step}
use Rattle.segmentation_definitions.specs.Listings.{Cursor, AtAnswer, cursor_after, IsPage}
use Rattle.segmentation_definitions.specs.PrintedAnswers.{printed_answers, printed_page}
use Rattle.answer_paths.specs.Pages.{AreFirstAnswers}
use Rattle.derivation.specs.declared.step.Step.{Step as ProgramStep}
use Rattle.segmenter.specs.Searches.{SearchValue, HasEnded, IsCurrent}

-- the same search at another cursor
abbrev pub standing_at : SearchValue → Cursor → SearchValue
standing_at search cursor =
    record { searched = search.searched; line = search.line; choices = search.choices; cursor = cursor }

-- the same search has listed these answers, at most count: they are the first ones after where it stood. Where they are as many
-- as count, it stands at the last of them, or where it stood if count is 0; else it has come past the last answer
pub record HasListed (old new : SearchValue) (count : ℕ) (answers : List (List Step)) : Type 0 where
  pub same : new ≡ standing_at old new.cursor
  pub first : AreFirstAnswers old.searched.lexicon old.line old.choices old.cursor answers
  pub at_most : length answers ≤ count
  pub full : length answers ≡ count → new ≡ standing_at old (cursor_after old.cursor answers)
  pub ended : length answers < count → HasEnded (standing_at old (cursor_after old.cursor answers)) new

-- the program's steps are now those of the last of the answers, or stay as they were where there is no answer
abbrev pub KeepsLast : SearchValue → List (List Step) → List ProgramStep → List ProgramStep → Type 0
KeepsLast search [] before after = after ≡ before
KeepsLast search (answer ∷ answers) before after =
    IsCurrent (standing_at search (cursor_after (AtAnswer answer) answers)) (Some after)

-- so many answers were listed and printed, a line each, numbered from this number on; the steps of the last of them are kept
pub record HasPrinted (old new : SearchValue) (number count : ℕ) (before after : List ℕ)
    (last_before last_after : List ProgramStep) (printed : ℕ) : Type 0 where
  pub answers : List (List Step)
  pub many : length answers ≡ printed
  pub listed : HasListed old new count answers
  pub lines : after ≡ before ++ printed_answers old.searched.lexicon.rules number answers
  pub last : KeepsLast old answers last_before last_after

-- the page of so many answers after where the search stood was printed, numbered from this number on
pub record HasPrintedPage (old : SearchValue) (number count : ℕ) (before after : List ℕ) : Type 0 where
  pub answers : List (List Step)
  pub more : Bool
  pub page : IsPage old.searched.lexicon old.line old.choices old.cursor count answers more
  pub lines : after ≡ before ++ printed_page old.searched.lexicon.rules number answers more
