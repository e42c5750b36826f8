-- The words of `check`, and what it does with the name of a lexicon file (own).
use Rattle.std.specs.Prelude.{◌≡◌, ℕ, Bool, List, [], ◌∷◌, codes}
use Rattle.outside.specs.Files.{Files}
use Rattle.lexicon_definitions.specs.Lexicons.{Lexicon}
use Rattle.run_definitions.specs.declared.limits.TheConstants.{CHECK_OVERLAPS}
use Rattle.run_definitions.specs.Arguments.{FileWord, AreNamed}
use Rattle.run_definitions.specs.Ends.{Outcome, Done, ReadFault, BadFile, outcome_over}
use Rattle.run_definitions.specs.Refusals.{file_refusal, usage_outcome}
use Rattle.run_definitions.specs.LexiconTells.{FileTells, NotThere, Refused, Holds, DoesTell}
use Rattle.segmentation_definitions.specs.Overlaps.{Overlap}
use Rattle.run_definitions.specs.Overlaps.{AreFirstOverlaps, printed_check}

-- ---- the words

-- it takes the name of a lexicon file
abbrev pub TakesCheck : FileWord → List (List ℕ) → List FileWord → Type 0
TakesCheck lex values arguments = (values ≡ []) × (arguments ≡ lex ∷ [])

-- the words are those of `check` with this name
abbrev pub AreCheckWords : FileWord → List (List ℕ) → Type 0
AreCheckWords lex words = AreNamed (codes "check") (TakesCheck lex) words

-- ---- the outcome

-- the counts of the lexicon and its first overlaps are written
pub record IsOverlapsOutcome (lexicon : Lexicon) (files : Files) (outcome : Outcome) : Type 0 where
  pub overlaps : List Overlap
  pub more : Bool
  pub first : AreFirstOverlaps lexicon CHECK_OVERLAPS overlaps more
  pub is : outcome ≡ outcome_over files (printed_check lexicon overlaps more) Done

-- by what the file tells: nothing is written, its refusal is, or its overlaps are
abbrev pub IsCheckOutcomeWith : FileTells → FileWord → Files → Outcome → Type 0
IsCheckOutcomeWith NotThere lex files outcome = outcome ≡ outcome_over files [] ReadFault
IsCheckOutcomeWith (Refused fault) lex files outcome =
    outcome ≡ outcome_over files (file_refusal lex.name fault) (BadFile lex.place fault)
IsCheckOutcomeWith (Holds lexicon) lex files outcome = IsOverlapsOutcome lexicon files outcome

-- the outcome of `check` with this name of a file
pub record IsCheckOutcome (lex : FileWord) (files : Files) (outcome : Outcome) : Type 0 where
  pub tells : FileTells
  pub does_tell : DoesTell files lex.name tells
  pub is_outcome : IsCheckOutcomeWith tells lex files outcome

-- ---- the run

-- the outcome of a run whose first word is `check`: that of the command, or where the words are not its words `usage`
pub data IsCheckRun (words : List (List ℕ)) (files : Files) (outcome : Outcome) : Type 0 where
  OfWords : (lex : FileWord) → AreCheckWords lex words → IsCheckOutcome lex files outcome → IsCheckRun words files outcome
  OfOthers : ((lex : FileWord) → AreCheckWords lex words → ⊥) → outcome ≡ usage_outcome files → IsCheckRun words files outcome
