-- A page as texts, one for each answer (own).
use Rattle.std.specs.Prelude.{◌≡◌, ℕ, List, [], ◌∷◌, ◌++◌, map, codes, string_bytes}
use Rattle.std.specs.Fmt.{decimal}
use Rattle.text_definitions.specs.Lines.{Line}
use Rattle.lexicon_definitions.specs.Lexicons.{Lexicon, RuleSet}
use Rattle.segmentation_definitions.specs.Derivations.{Step}
use Rattle.segmentation_definitions.specs.Items.{Choice}
use Rattle.segmentation_definitions.specs.Listings.{BeforeFirst, IsPage}
use Rattle.segmentation_definitions.specs.PrintedAnswers.{printed_answer, printed_steps, next_number}
use Rattle.search_split.specs.declared.page.Page.{Page}

-- the text of each answer, numbered from this number on, with no line end
abbrev pub answer_texts : RuleSet → ℕ → List (List Step) → List (List ℕ)
answer_texts rules number [] = []
answer_texts rules number (steps ∷ answers) = printed_answer rules number steps ∷ answer_texts rules (next_number number) answers

-- the text of an answer from after its number on
abbrev pub text_after_number : RuleSet → List Step → List ℕ
text_after_number rules steps = codes ": " ++ printed_steps rules steps

-- the texts, each after its number, numbered from this number on
abbrev pub texts_with_numbers : ℕ → List (List ℕ) → List (List ℕ)
texts_with_numbers number [] = []
texts_with_numbers number (text ∷ texts) = (decimal number ++ text) ∷ texts_with_numbers (next_number number) texts

-- these are the texts of the page of so many answers before the first answer, numbered from 1, and whether an answer is left
pub record IsPrintedPage (lexicon : Lexicon) (line : Line) (choices : List Choice) (limit : ℕ) (printed : Page) : Type 0 where
  pub answers : List (List Step)
  pub page : IsPage lexicon line choices BeforeFirst limit answers printed.more
  pub texts : map string_bytes printed.answers.items ≡ answer_texts lexicon.rules 1 answers
