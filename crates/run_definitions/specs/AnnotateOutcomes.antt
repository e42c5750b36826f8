-- The words of `annotate`, and what it does with the name of a lexicon file, the text of a bookmark, and the name of a file to write (own).
use Rattle.std.specs.Prelude.{◌≡◌, ℕ, ◌++◌, List, [], ◌∷◌, Some, length, codes}
use Rattle.std.specs.Fmt.{decimal}
use Rattle.outside.specs.Files.{Files, with_file}
use Rattle.text_definitions.specs.Lines.{Line}
use Rattle.lexicon_definitions.specs.Lexicons.{Lexicon, RuleSet}
use Rattle.segmentation_definitions.specs.Derivations.{Step}
use Rattle.segmentation_definitions.specs.Items.{Choice}
use Rattle.segmentation_definitions.specs.Answers.{IsAnswer}
use Rattle.segmentation_definitions.specs.Listings.{Cursor, BeforeFirst, AtAnswer, IsNext, keys_of}
use Rattle.segmentation_definitions.specs.PrintedAnswers.{output_line, printed_answers}
use Rattle.bookmark_definitions.specs.Bookmarks.{Bookmark}
use Rattle.bookmark_definitions.specs.BookmarkReadings.{bookmark_of_text}
use Rattle.session_definitions.specs.Replies.{IsCursorOfBookmark}
use Rattle.note_definitions.specs.Notes.{Note, IsOnlyAnswer}
use Rattle.note_definitions.specs.NoteTexts.{text_of_note}
use Rattle.run_definitions.specs.Arguments.{FileWord, AreNamed}
use Rattle.run_definitions.specs.Ends.{Outcome, Done, ReadFault, BadFile, NoAnswer, Several, BadMark, outcome_over}
use Rattle.run_definitions.specs.Refusals.{file_refusal, usage_outcome}
use Rattle.run_definitions.specs.LexiconTells.{FileTells, NotThere, Refused, Holds, DoesTell}

-- ---- the words

-- it takes the name of a lexicon file, the text of a bookmark, and the name of a file to write
abbrev pub TakesAnnotate : FileWord → List ℕ → FileWord → List (List ℕ) → List FileWord → Type 0
TakesAnnotate lex mark out values arguments =
    (values ≡ []) × ((place : ℕ) × (arguments ≡ lex ∷ record { place = place; name = mark } ∷ out ∷ []))

-- the words are those of `annotate` with these
abbrev pub AreAnnotateWords : FileWord → List ℕ → FileWord → List (List ℕ) → Type 0
AreAnnotateWords lex mark out words = AreNamed (codes "annotate") (TakesAnnotate lex mark out) words

-- ---- the bookmark

-- the text is that of this bookmark, and a session over the lexicon would go on from it
pub record IsMarkOver (lexicon : Lexicon) (text : List ℕ) (mark : Bookmark) : Type 0 where
  pub read : bookmark_of_text text ≡ Some mark
  pub cursor : Cursor
  pub is_cursor : IsCursorOfBookmark lexicon mark cursor

-- a session over the lexicon would refuse the text
abbrev pub IsBadMark : Lexicon → List ℕ → Type 0
IsBadMark lexicon text = (mark : Bookmark) → IsMarkOver lexicon text mark → ⊥

-- ---- the outcome

-- `segments N`, the number of steps
abbrev pub printed_segments : List Step → List ℕ
printed_segments steps = output_line (codes "segments " ++ decimal (length steps))

-- `several`, and then the first two answers
abbrev pub printed_several : RuleSet → List Step → List Step → List ℕ
printed_several rules first second = output_line (codes "several") ++ printed_answers rules 1 (first ∷ second ∷ [])

-- the note is written: its file has its text, all others are as they were, and then the number of its segments is printed
abbrev pub noted_outcome : Lexicon → Note → FileWord → Files → Outcome
noted_outcome lexicon note out files =
    record { output = printed_segments note.steps; files = with_file files out.name (text_of_note lexicon note); end = Done }

-- the line and the choices have one answer, whose note is written; or none; or several, of which the first two are told
pub data IsNotedOutcome (lexicon : Lexicon) (line : Line) (choices : List Choice) (out : FileWord) (files : Files) (outcome : Outcome)
    : Type 0 where
  OfOnly : (steps : List Step) → IsOnlyAnswer lexicon line choices steps
      → outcome ≡ noted_outcome lexicon (record { line = line; choices = choices; steps = steps }) out files
      → IsNotedOutcome lexicon line choices out files outcome
  OfNone : ((steps : List Step) → IsAnswer lexicon line choices steps → ⊥)
      → outcome ≡ outcome_over files (output_line (codes "no answer")) NoAnswer → IsNotedOutcome lexicon line choices out files outcome
  OfSeveral : (first second : List Step) → IsNext lexicon line choices BeforeFirst first
      → IsNext lexicon line choices (AtAnswer first) second
      → outcome ≡ outcome_over files (printed_several lexicon.rules first second)
      (Several (keys_of lexicon.rules first) (keys_of lexicon.rules second))
      → IsNotedOutcome lexicon line choices out files outcome

-- with a lexicon, the bookmark is refused, or it goes on with its line and choices; the number printed and the keys are not used further
pub data IsMarkOutcome (lexicon : Lexicon) (text : List ℕ) (out : FileWord) (files : Files) (outcome : Outcome) : Type 0 where
  OfNoMark : IsBadMark lexicon text → outcome ≡ outcome_over files (output_line (codes "bad mark")) BadMark
      → IsMarkOutcome lexicon text out files outcome
  OfMark : (mark : Bookmark) → IsMarkOver lexicon text mark → IsNotedOutcome lexicon mark.line mark.choices out files outcome
      → IsMarkOutcome lexicon text out files outcome

-- by what the file tells: nothing is written, its refusal is, or it goes on with the bookmark
abbrev pub IsAnnotateOutcomeWith : FileTells → FileWord → List ℕ → FileWord → Files → Outcome → Type 0
IsAnnotateOutcomeWith NotThere lex mark out files outcome = outcome ≡ outcome_over files [] ReadFault
IsAnnotateOutcomeWith (Refused fault) lex mark out files outcome =
    outcome ≡ outcome_over files (file_refusal lex.name fault) (BadFile lex.place fault)
IsAnnotateOutcomeWith (Holds lexicon) lex mark out files outcome = IsMarkOutcome lexicon mark out files outcome

-- the outcome of `annotate` with this name of a file, this text of a bookmark, and this name of a file to write
pub record IsAnnotateOutcome (lex : FileWord) (mark : List ℕ) (out : FileWord) (files : Files) (outcome : Outcome) : Type 0 where
  pub tells : FileTells
  pub does_tell : DoesTell files lex.name tells
  pub is_outcome : IsAnnotateOutcomeWith tells lex mark out files outcome

-- ---- the run

-- the outcome of a run whose first word is `annotate`: that of the command, or where the words are not its words `usage`
pub data IsAnnotateRun (words : List (List ℕ)) (files : Files) (outcome : Outcome) : Type 0 where
  OfWords : (lex : FileWord) (mark : List ℕ) (out : FileWord) → AreAnnotateWords lex mark out words
      → IsAnnotateOutcome lex mark out files outcome → IsAnnotateRun words files outcome
  OfOthers : ((lex : FileWord) (mark : List ℕ) (out : FileWord) → AreAnnotateWords lex mark out words → ⊥)
      → outcome ≡ usage_outcome files → IsAnnotateRun words files outcome
