-- What `split` writes over a lexicon for a text in SLP1.
use Rattle.std.specs.Prelude.{◌≡◌, ℕ, ◌++◌, List, [], ◌∷◌, Bool, Ok, Err}
use Rattle.text_definitions.specs.Lines.{Line}
use Rattle.text_definitions.specs.Schemes.{Slp1}
use Rattle.text_definitions.specs.LineTexts.{line_of_text}
use Rattle.text_line.specs.declared.text_fault.TextFault.{TextFault}
use Rattle.text_line.specs.Values.{text_fault}
use Rattle.lexicon_definitions.specs.Lexicons.{Lexicon}
use Rattle.segmentation_definitions.specs.Derivations.{Step}
use Rattle.segmentation_definitions.specs.Listings.{BeforeFirst, IsPage}
use Rattle.segmentation_definitions.specs.PrintedAnswers.{output_line, printed_page}
use Rattle.run_definitions.specs.Refusals.{text_refusal}
use Rattle.commands.specs.declared.status.Status.{Status}
use Rattle.commands.specs.declared.status.Status.TheVariants.{Done, BadText}

-- the texts, a line each
abbrev pub text_lines : List (List ℕ) → List ℕ
text_lines [] = []
text_lines (text ∷ texts) = output_line text ++ text_lines texts

-- the output is the printed page of so many answers of the line, before the first answer
pub record IsPrintedSplit (lexicon : Lexicon) (line : Line) (count : ℕ) (output : List ℕ) : Type 0 where
  pub answers : List (List Step)
  pub more : Bool
  pub page : IsPage lexicon line [] BeforeFirst count answers more
  pub printed : output ≡ printed_page lexicon.rules 1 answers more

-- what is written before the status: the page of the text's line, or the refusal of the text
pub data WritesSplit (text : List ℕ) (count : ℕ) (lexicon : Lexicon) (status : Status) (output : List ℕ) : Type 0 where
  Page : (line : Line) → status ≡ Done → line_of_text Slp1 text ≡ Ok line → IsPrintedSplit lexicon line count output
      → WritesSplit text count lexicon status output
  OfText : (fault : TextFault) → status ≡ BadText fault → line_of_text Slp1 text ≡ Err (text_fault fault)
      → output ≡ text_refusal (text_fault fault) → WritesSplit text count lexicon status output
