-- What a lexicon file tells: its lexicon, or its first fault (own).
use Rattle.std.specs.Prelude.{◌≡◌, ℕ, ◌+◌, ◌⊎◌, Result, Ok, Err, List, [], ◌∷◌}
use Rattle.lexicon_definitions.specs.GrammarFaults as grammars
use Rattle.lexicon_definitions.specs.GrammarFaults.{IsFirstFault, IsGrammarTextWithinLimits}
use Rattle.lexicon_definitions.specs.Lexicons.{Lexicon}
use Rattle.lexicon_text_definitions.specs.FileFaults as faults
use Rattle.lexicon_text_definitions.specs.FileFaults.{Why, NoEnd, FileFault}
use Rattle.lexicon_text_definitions.specs.FileLines.{Line, lines_of_bytes, Kind, Grammar, End}
use Rattle.lexicon_text_definitions.specs.FileContents.{Told, nothing_told, lexicon_told}
use Rattle.lexicon_text_definitions.specs.FileSteps.{Taken, take_line}

-- What is read in lines, by computation alone: all that they tell; the first fault; or, at a grammar line, what decides.
-- There the text's own first fault is the line's, and where it has no fault, what is read after it counts. That is left open
-- since a text is at fault by a number of states, which is not found by looking at its bytes.
pub data Reading : Type 0 where
  Content : (told : Told) → Reading
  Fault : (line : ℕ) → (why : Why) → Reading
  Asks : (line : ℕ) → (told : Told) → (after : Reading) → Reading

-- a grammar line asks
abbrev pub asking : Kind → ℕ → Told → Reading → Reading
asking Grammar number told after = Asks number told after
asking last number told after = after

abbrev pub read_on : ℕ → Taken → (Told → Reading) → Reading
read_on number (Err why) following = Fault number why
read_on number (Ok told) following = asking told.last number told (following told)

-- after the last of all lines, which is to be the line `end`
abbrev pub at_end : Kind → ℕ → Told → Reading
at_end End number told = Content told
at_end last number told = Fault number NoEnd

-- what is read in these lines, the first of which has this number, where those before them told this
abbrev pub read_lines : Told → ℕ → List Line → Reading
read_lines told number [] = at_end told.last number told
read_lines told number (line ∷ lines) =
    read_on number (take_line told line) (λ following. read_lines following (number + 1) lines)

-- what is read in a file
unfoldable pub reading_of : List ℕ → Reading
reading_of bytes = read_lines nothing_told 1 (lines_of_bytes bytes)

-- the lexicon, or the first fault
abbrev pub FileResult : Type 0
FileResult = Result Lexicon FileFault

abbrev pub fault_at : ℕ → Why → FileResult
fault_at line why = Err (record { line = line; why = why })

-- the result of a reading, with what its grammar text decides
abbrev pub IsResult : Reading → FileResult → Type 0
IsResult (Content told) result = result ≡ Ok (lexicon_told told)
IsResult (Fault line why) result = result ≡ fault_at line why
IsResult (Asks line told after) result =
    (IsGrammarTextWithinLimits told.names told.grammar × IsResult after result)
    ⊎ ((fault : grammars.Fault) × IsFirstFault told.names told.grammar fault × (result ≡ fault_at line (faults.Grammar fault)))

-- the bytes of a lexicon file are read as this lexicon, or have this first fault
abbrev pub IsReadAs : List ℕ → FileResult → Type 0
IsReadAs bytes result = IsResult (reading_of bytes) result
