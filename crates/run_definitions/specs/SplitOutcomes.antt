-- The words of `split`, and what it does with the name of a lexicon file, a text in SLP1, the most answers of a page, and the depth to which
-- the search is divided, which changes nothing of the page (own).
use Rattle.std.specs.Prelude.{◌≡◌, ℕ, ◌&&◌, nat_le, if◌then◌else◌, Bool, List, [], ◌∷◌, Option, Some, None, Ok, Err, codes}
use Rattle.std.specs.Str.Parse.{digits_value}
use Rattle.outside.specs.Files.{Files}
use Rattle.text_definitions.specs.Lines.{Line}
use Rattle.text_definitions.specs.Schemes.{Slp1}
use Rattle.text_definitions.specs.LineTexts.{LineFault, line_of_text}
use Rattle.text_definitions.specs.TypedNumbers.{are_digits_up_to}
use Rattle.lexicon_definitions.specs.Lexicons.{Lexicon}
use Rattle.segmentation_definitions.specs.Derivations.{Step}
use Rattle.segmentation_definitions.specs.Listings.{BeforeFirst, IsPage}
use Rattle.segmentation_definitions.specs.PrintedAnswers.{printed_page}
use Rattle.session_definitions.specs.Numbers.{page_size_of}
use Rattle.run_definitions.specs.declared.limits.TheConstants.{MOST_SPLIT_DEPTH}
use Rattle.run_definitions.specs.Arguments.{FileWord, AreNamed}
use Rattle.run_definitions.specs.Ends.{Outcome, Done, ReadFault, BadFile, BadText, outcome_over}
use Rattle.run_definitions.specs.Refusals.{file_refusal, text_refusal, usage_outcome}
use Rattle.run_definitions.specs.LexiconTells.{FileTells, NotThere, Refused, Holds, DoesTell}

-- ---- the words

-- the depth that one digit writes: at least 1, and not too many steps
abbrev pub split_depth_of : List ℕ → Option ℕ
split_depth_of text =
    if are_digits_up_to 1 text && nat_le 1 (digits_value 10 text) && nat_le (digits_value 10 text) MOST_SPLIT_DEPTH
    then Some (digits_value 10 text) else None

-- the arguments of `split`: a lexicon file, a text, how many answers the page may have, and a depth
pub record AreSplitArguments (lex : FileWord) (text : List ℕ) (count depth : ℕ) (arguments : List FileWord) : Type 0 where
  pub place : ℕ
  pub counted : FileWord
  pub deep : FileWord
  pub are : arguments ≡ lex ∷ record { place = place; name = text } ∷ counted ∷ deep ∷ []
  pub counts : page_size_of counted.name ≡ Some count
  pub is_depth : split_depth_of deep.name ≡ Some depth

-- it takes these arguments and no option
abbrev pub TakesSplit : FileWord → List ℕ → ℕ → ℕ → List (List ℕ) → List FileWord → Type 0
TakesSplit lex text count depth values arguments = (values ≡ []) × AreSplitArguments lex text count depth arguments

-- the words are those of `split` with these
abbrev pub AreSplitWords : FileWord → List ℕ → ℕ → ℕ → List (List ℕ) → Type 0
AreSplitWords lex text count depth words = AreNamed (codes "split") (TakesSplit lex text count depth) words

-- ---- the outcome

-- the page of so many answers of a lexicon and a line, before the first answer, is written
pub record IsSplitPageOutcome (lexicon : Lexicon) (line : Line) (count : ℕ) (files : Files) (outcome : Outcome) : Type 0 where
  pub answers : List (List Step)
  pub more : Bool
  pub page : IsPage lexicon line [] BeforeFirst count answers more
  pub is : outcome ≡ outcome_over files (printed_page lexicon.rules 1 answers more) Done

-- with a lexicon and the reading of a text in SLP1, its fault is written, or the page of its line
pub data IsSplitTextOutcome (lexicon : Lexicon) (text : List ℕ) (count : ℕ) (files : Files) (outcome : Outcome) : Type 0 where
  OfText : (fault : LineFault) → line_of_text Slp1 text ≡ Err fault
      → outcome ≡ outcome_over files (text_refusal fault) (BadText fault) → IsSplitTextOutcome lexicon text count files outcome
  OfPage : (line : Line) → line_of_text Slp1 text ≡ Ok line → IsSplitPageOutcome lexicon line count files outcome
      → IsSplitTextOutcome lexicon text count files outcome

-- by what the file tells: nothing is written, its refusal is, or it goes on with the text
abbrev pub IsSplitOutcomeWith : FileTells → FileWord → List ℕ → ℕ → Files → Outcome → Type 0
IsSplitOutcomeWith NotThere lex text count files outcome = outcome ≡ outcome_over files [] ReadFault
IsSplitOutcomeWith (Refused fault) lex text count files outcome =
    outcome ≡ outcome_over files (file_refusal lex.name fault) (BadFile lex.place fault)
IsSplitOutcomeWith (Holds lexicon) lex text count files outcome = IsSplitTextOutcome lexicon text count files outcome

-- the outcome of `split` with this name of a file, this text and at most so many answers; it is the same for any depth
pub record IsSplitOutcome (lex : FileWord) (text : List ℕ) (count : ℕ) (files : Files) (outcome : Outcome) : Type 0 where
  pub tells : FileTells
  pub does_tell : DoesTell files lex.name tells
  pub is_outcome : IsSplitOutcomeWith tells lex text count files outcome

-- ---- the run

-- the outcome of a run whose first word is `split`: that of the command, or where the words are not its words `usage`
pub data IsSplitRun (words : List (List ℕ)) (files : Files) (outcome : Outcome) : Type 0 where
  OfWords : (lex : FileWord) (text : List ℕ) (count depth : ℕ) → AreSplitWords lex text count depth words
      → IsSplitOutcome lex text count files outcome → IsSplitRun words files outcome
  OfOthers : ((lex : FileWord) (text : List ℕ) (count depth : ℕ) → AreSplitWords lex text count depth words → ⊥)
      → outcome ≡ usage_outcome files → IsSplitRun words files outcome
