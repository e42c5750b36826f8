-- The words of `batch`, and what it does with the names of a lexicon file and a text file, the scheme of the text, and the most answers of a page
-- (own).
use Rattle.std.specs.Prelude.{◌≡◌, ℕ, ◌+◌, ◌++◌, Bool, List, [], ◌∷◌, Some, Result, Ok, Err, codes}
use Rattle.std.specs.Fmt.{decimal}
use Rattle.outside.specs.Files.{Files}
use Rattle.text_definitions.specs.Lines.{Line}
use Rattle.text_definitions.specs.Schemes.{Scheme, name_of_scheme}
use Rattle.text_definitions.specs.LineTexts.{LineFault, line_of_text}
use Rattle.lexicon_definitions.specs.Lexicons.{Lexicon}
use Rattle.lexicon_text_definitions.specs.FileLines as file
use Rattle.lexicon_text_definitions.specs.FileLines.{lines_of_bytes}
use Rattle.segmentation_definitions.specs.Derivations.{Step}
use Rattle.segmentation_definitions.specs.Listings.{BeforeFirst, IsPage}
use Rattle.segmentation_definitions.specs.PrintedAnswers.{output_line, printed_page}
use Rattle.session_definitions.specs.LineWhys.{why_no_line}
use Rattle.session_definitions.specs.Numbers.{page_size_of}
use Rattle.run_definitions.specs.Arguments.{FileWord, AreNamed}
use Rattle.run_definitions.specs.Ends.{Outcome, AnyFault, Done, ReadFault, BadFile, outcome_over}
use Rattle.run_definitions.specs.Refusals.{file_refusal, usage_outcome}
use Rattle.run_definitions.specs.LexiconTells as lexicons
use Rattle.run_definitions.specs.LexiconTells.{FileTells, NotThere, DoesTell}
use Rattle.run_definitions.specs.SourceTells.{SourceTells, Missing, Refused, Holds, DoesTellSource, IsOutcomeAfter}

-- ---- the words

-- the arguments of `batch`: a lexicon file, the name of a scheme, a text file, and how many answers a page may have
pub record AreBatchArguments (lex : FileWord) (scheme : Scheme) (file : FileWord) (count : ℕ) (arguments : List FileWord) : Type 0 where
  pub named : FileWord
  pub counted : FileWord
  pub are : arguments ≡ lex ∷ named ∷ file ∷ counted ∷ []
  pub names : named.name ≡ name_of_scheme scheme
  pub counts : page_size_of counted.name ≡ Some count

-- it takes these arguments and no option
abbrev pub TakesBatch : FileWord → Scheme → FileWord → ℕ → List (List ℕ) → List FileWord → Type 0
TakesBatch lex scheme file count values arguments = (values ≡ []) × AreBatchArguments lex scheme file count arguments

-- the words are those of `batch` with these
abbrev pub AreBatchWords : FileWord → Scheme → FileWord → ℕ → List (List ℕ) → Type 0
AreBatchWords lex scheme file count words = AreNamed (codes "batch") (TakesBatch lex scheme file count) words

-- ---- the replies

-- the reply to a line of the text: the page of its first answers, or `?` and why it is no line in the scheme
pub data IsLineReply (lexicon : Lexicon) (scheme : Scheme) (count : ℕ) (text reply : List ℕ) : Type 0 where
  OfFault : (fault : LineFault) → line_of_text scheme text ≡ Err fault → reply ≡ output_line (codes "? " ++ why_no_line fault)
      → IsLineReply lexicon scheme count text reply
  OfPage : (line : Line) (answers : List (List Step)) (more : Bool) → line_of_text scheme text ≡ Ok line
      → IsPage lexicon line [] BeforeFirst count answers more → reply ≡ printed_page lexicon.rules 1 answers more
      → IsLineReply lexicon scheme count text reply

-- the reply after its number, `line I`
abbrev pub numbered_reply : ℕ → List ℕ → List ℕ
numbered_reply number reply = output_line (codes "line " ++ decimal number) ++ reply

-- what is written for these lines, the first of which has this number: the reply to each after its number
abbrev pub AreNumberedReplies : Lexicon → Scheme → ℕ → ℕ → List file.Line → List ℕ → Type 0
AreNumberedReplies lexicon scheme count number [] output = output ≡ []
AreNumberedReplies lexicon scheme count number (line ∷ lines) output =
    (reply : List ℕ) × (rest : List ℕ) × IsLineReply lexicon scheme count line.bytes reply
    × (output ≡ numbered_reply number reply ++ rest)
    × AreNumberedReplies lexicon scheme count (number + 1) lines rest

-- ---- the files

-- any bytes are those of a text file
abbrev pub IsAnyText : List ℕ → Result (List ℕ) ⊥ → Type 0
IsAnyText bytes result = result ≡ Ok bytes

-- a text file has no fault of its own
abbrev pub no_text_fault : ⊥ → AnyFault
no_text_fault fault = absurd fault

-- what the text file tells: that it is not there, that it is too large, or its bytes
abbrev pub TextTells : Files → List ℕ → SourceTells (List ℕ) → Type 0
TextTells files name tells = DoesTellSource IsAnyText no_text_fault files name tells

-- with the bytes of the text file, the replies to its lines are written
pub record IsRepliesOutcome (lexicon : Lexicon) (scheme : Scheme) (count : ℕ) (bytes : List ℕ) (files : Files) (outcome : Outcome)
    : Type 0 where
  pub output : List ℕ
  pub replies : AreNumberedReplies lexicon scheme count 1 (lines_of_bytes bytes) output
  pub is : outcome ≡ outcome_over files output Done

-- with the lexicon, the text file is read
pub record IsTextOutcome (lexicon : Lexicon) (scheme : Scheme) (file : FileWord) (count : ℕ) (files : Files) (outcome : Outcome)
    : Type 0 where
  pub tells : SourceTells (List ℕ)
  pub do_tell : TextTells files file.name tells
  pub is_outcome : IsOutcomeAfter tells file files outcome (λ bytes. IsRepliesOutcome lexicon scheme count bytes files outcome)

-- by what the lexicon file tells: nothing is written, its refusal is, or it goes on with the text file
abbrev pub IsBatchOutcomeWith : FileTells → FileWord → Scheme → FileWord → ℕ → Files → Outcome → Type 0
IsBatchOutcomeWith NotThere lex scheme file count files outcome = outcome ≡ outcome_over files [] ReadFault
IsBatchOutcomeWith (lexicons.Refused fault) lex scheme file count files outcome =
    outcome ≡ outcome_over files (file_refusal lex.name fault) (BadFile lex.place fault)
IsBatchOutcomeWith (lexicons.Holds lexicon) lex scheme file count files outcome =
    IsTextOutcome lexicon scheme file count files outcome

-- the outcome of `batch` with these names of files, this scheme, and at most so many answers a page
pub record IsBatchOutcome (lex : FileWord) (scheme : Scheme) (file : FileWord) (count : ℕ) (files : Files) (outcome : Outcome)
    : Type 0 where
  pub tells : FileTells
  pub does_tell : DoesTell files lex.name tells
  pub is_outcome : IsBatchOutcomeWith tells lex scheme file count files outcome

-- ---- the run

-- the outcome of a run whose first word is `batch`: that of the command, or where the words are not its words `usage`
pub data IsBatchRun (words : List (List ℕ)) (files : Files) (outcome : Outcome) : Type 0 where
  OfWords : (lex : FileWord) (scheme : Scheme) (file : FileWord) (count : ℕ) → AreBatchWords lex scheme file count words
      → IsBatchOutcome lex scheme file count files outcome → IsBatchRun words files outcome
  OfOthers : ((lex : FileWord) (scheme : Scheme) (file : FileWord) (count : ℕ) → AreBatchWords lex scheme file count words → ⊥)
      → outcome ≡ usage_outcome files → IsBatchRun words files outcome

-- ---- what is written where a run stops

-- these are the replies to some of the first lines of the bytes
pub record AreFirstReplies (lexicon : Lexicon) (scheme : Scheme) (count : ℕ) (bytes output : List ℕ) : Type 0 where
  pub lines : List file.Line
  pub others : List file.Line
  pub first : lines_of_bytes bytes ≡ lines ++ others
  pub replies : AreNumberedReplies lexicon scheme count 1 lines output

-- by what the text file tells: nothing, its refusal, or the replies to some of its first lines
abbrev pub IsTextSoFarWith : SourceTells (List ℕ) → Lexicon → Scheme → FileWord → ℕ → List ℕ → Type 0
IsTextSoFarWith Missing lexicon scheme file count output = output ≡ []
IsTextSoFarWith (Refused fault) lexicon scheme file count output = output ≡ file_refusal file.name fault
IsTextSoFarWith (Holds bytes) lexicon scheme file count output = AreFirstReplies lexicon scheme count bytes output

-- with the lexicon
pub record IsTextSoFar (lexicon : Lexicon) (scheme : Scheme) (file : FileWord) (count : ℕ) (files : Files) (output : List ℕ)
    : Type 0 where
  pub tells : SourceTells (List ℕ)
  pub do_tell : TextTells files file.name tells
  pub is_output : IsTextSoFarWith tells lexicon scheme file count output

-- by what the lexicon file tells: nothing, its refusal, or what is written with the text file
abbrev pub IsBatchSoFarWith : FileTells → FileWord → Scheme → FileWord → ℕ → Files → List ℕ → Type 0
IsBatchSoFarWith NotThere lex scheme file count files output = output ≡ []
IsBatchSoFarWith (lexicons.Refused fault) lex scheme file count files output = output ≡ file_refusal lex.name fault
IsBatchSoFarWith (lexicons.Holds lexicon) lex scheme file count files output = IsTextSoFar lexicon scheme file count files output

-- what `batch` may have come to write
pub record IsBatchSoFar (lex : FileWord) (scheme : Scheme) (file : FileWord) (count : ℕ) (files : Files) (output : List ℕ)
    : Type 0 where
  pub tells : FileTells
  pub does_tell : DoesTell files lex.name tells
  pub is_output : IsBatchSoFarWith tells lex scheme file count files output
