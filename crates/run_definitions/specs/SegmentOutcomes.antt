-- The words of `segment`, and what it does with the name of a lexicon file and a text in a scheme (own).
use Rattle.std.specs.Prelude.{◌≡◌, ℕ, Bool, List, [], ◌∷◌, Ok, Err, codes}
use Rattle.outside.specs.Files.{Files}
use Rattle.text_definitions.specs.Lines.{Line}
use Rattle.text_definitions.specs.Schemes.{Scheme}
use Rattle.text_definitions.specs.LineTexts.{LineFault, line_of_text}
use Rattle.lexicon_definitions.specs.Lexicons.{Lexicon}
use Rattle.segmentation_definitions.specs.Derivations.{Step}
use Rattle.segmentation_definitions.specs.Listings.{BeforeFirst, IsPage}
use Rattle.segmentation_definitions.specs.PrintedAnswers.{printed_page}
use Rattle.run_definitions.specs.declared.limits.TheConstants.{SEGMENT_PAGE}
use Rattle.run_definitions.specs.Arguments.{FileWord, AreNamed}
use Rattle.run_definitions.specs.SchemeNames.{GiveScheme}
use Rattle.run_definitions.specs.Ends.{Outcome, Done, ReadFault, BadFile, BadText, outcome_over}
use Rattle.run_definitions.specs.Refusals.{file_refusal, text_refusal, usage_outcome}
use Rattle.run_definitions.specs.LexiconTells.{FileTells, NotThere, Refused, Holds, DoesTell}

-- ---- the words

-- it takes a scheme, the name of a lexicon file and a text
abbrev pub TakesSegment : FileWord → Scheme → List ℕ → List (List ℕ) → List FileWord → Type 0
TakesSegment lex scheme text values arguments =
    GiveScheme values scheme × ((place : ℕ) × (arguments ≡ lex ∷ record { place = place; name = text } ∷ []))

-- the words are those of `segment` with these
abbrev pub AreSegmentWords : FileWord → Scheme → List ℕ → List (List ℕ) → Type 0
AreSegmentWords lex scheme text words = AreNamed (codes "segment") (TakesSegment lex scheme text) words

-- ---- the outcome

-- the page of a lexicon and a line before the first answer is written
pub record IsPageOutcome (lexicon : Lexicon) (line : Line) (files : Files) (outcome : Outcome) : Type 0 where
  pub answers : List (List Step)
  pub more : Bool
  pub page : IsPage lexicon line [] BeforeFirst SEGMENT_PAGE answers more
  pub is : outcome ≡ outcome_over files (printed_page lexicon.rules 1 answers more) Done

-- with a lexicon and the reading of a text in its scheme, its fault is written, or the page of its line
pub data IsListedOutcome (lexicon : Lexicon) (scheme : Scheme) (text : List ℕ) (files : Files) (outcome : Outcome) : Type 0 where
  OfText : (fault : LineFault) → line_of_text scheme text ≡ Err fault
      → outcome ≡ outcome_over files (text_refusal fault) (BadText fault) → IsListedOutcome lexicon scheme text files outcome
  OfPage : (line : Line) → line_of_text scheme text ≡ Ok line → IsPageOutcome lexicon line files outcome
      → IsListedOutcome lexicon scheme text files outcome

-- by what the file tells: nothing is written, its refusal is, or what is listed
abbrev pub IsOutcomeWith : FileTells → FileWord → Scheme → List ℕ → Files → Outcome → Type 0
IsOutcomeWith NotThere lex scheme text files outcome = outcome ≡ outcome_over files [] ReadFault
IsOutcomeWith (Refused fault) lex scheme text files outcome =
    outcome ≡ outcome_over files (file_refusal lex.name fault) (BadFile lex.place fault)
IsOutcomeWith (Holds lexicon) lex scheme text files outcome = IsListedOutcome lexicon scheme text files outcome

-- the outcome of `segment` with this name of a file and this text in this scheme
pub record IsSegmentOutcome (lex : FileWord) (scheme : Scheme) (text : List ℕ) (files : Files) (outcome : Outcome) : Type 0 where
  pub tells : FileTells
  pub does_tell : DoesTell files lex.name tells
  pub is_outcome : IsOutcomeWith tells lex scheme text files outcome

-- ---- the run

-- the outcome of a run whose first word is `segment`: that of the command, or where the words are not its words `usage`
pub data IsSegmentRun (words : List (List ℕ)) (files : Files) (outcome : Outcome) : Type 0 where
  OfWords : (lex : FileWord) (scheme : Scheme) (text : List ℕ) → AreSegmentWords lex scheme text words
      → IsSegmentOutcome lex scheme text files outcome → IsSegmentRun words files outcome
  OfOthers : ((lex : FileWord) (scheme : Scheme) (text : List ℕ) → AreSegmentWords lex scheme text words → ⊥)
      → outcome ≡ usage_outcome files → IsSegmentRun words files outcome
