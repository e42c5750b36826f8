-- What a lexicon file of any version tells: its lexicon, or its first fault (own).
use Rattle.std.specs.Prelude.{◌≡◌, ℕ, ◌+◌, ◌⊎◌, Option, Some, None, Ok, Err, List, [], ◌∷◌, drop}
use Rattle.lexicon_definitions.specs.GrammarFaults as grammars
use Rattle.lexicon_definitions.specs.GrammarFaults.{IsFirstFault, IsGrammarTextWithinLimits}
use Rattle.lexicon_definitions.specs.Lexicons.{Lexicon}
use Rattle.lexicon_text_definitions.specs.FileReadings as first
use Rattle.lexicon_text_definitions.specs.FileContents.{rules_told}
use Rattle.lexicon_text_definitions.specs.FileLines.{Line, lines_of_bytes}
use Rattle.trie_text_definitions.specs.Versions.{Version, version_of}
use Rattle.trie_text_definitions.specs.VersionFaults as faults
use Rattle.trie_text_definitions.specs.VersionFaults.{Why, NoEnd, FileResult, fault_at, same_result}
use Rattle.trie_text_definitions.specs.TrieForms.{phases_of}
use Rattle.trie_text_definitions.specs.VersionSteps.{Kind, Grammar, End, Told, Taken, head_told, trie_told, take_line}

-- What is read in lines, by computation alone: all that they tell; the first fault; or, at a grammar line, what decides, as in
-- version 1: there the text's own first fault is the line's, and where it has no fault, what is read after it counts.
pub data Reading : Type 0 where
  Content : (told : Told) → Reading
  Fault : (line : ℕ) → (why : Why) → Reading
  Asks : (line : ℕ) → (told : Told) → (after : Reading) → Reading

-- a grammar line asks
abbrev pub asking : Kind → ℕ → Told → Reading → Reading
asking Grammar number told after = Asks number told after
asking last number told after = after

abbrev pub read_on : ℕ → Taken → (Told → Reading) → Reading
read_on number (Err why) following = Fault number why
read_on number (Ok told) following = asking told.last number told (following told)

-- after the last of all lines, which is to be the line `end`
abbrev pub at_end : Kind → ℕ → Told → Reading
at_end End number told = Content told
at_end last number told = Fault number NoEnd

-- what is read in these lines, the first of which has this number, where those before them told this
abbrev pub read_lines : Version → Told → ℕ → List Line → Reading
read_lines version told number [] = at_end told.last number told
read_lines version told number (line ∷ lines) =
    read_on number (take_line version told line) (λ following. read_lines version following (number + 1) lines)

-- what is read in a file of the version, in the lines after the first
unfoldable pub reading_in : Version → List ℕ → Reading
reading_in version bytes = read_lines version head_told 2 (drop 1 (lines_of_bytes bytes))

-- the lexicon that the lines told
abbrev pub lexicon_told : Told → Lexicon
lexicon_told told = record { rules = rules_told told.front; phases = phases_of (trie_told told) }

-- the result of a reading, with what its grammar text decides
abbrev pub IsResult : Reading → FileResult → Type 0
IsResult (Content told) result = result ≡ Ok (lexicon_told told)
IsResult (Fault line why) result = result ≡ fault_at line why
IsResult (Asks line told after) result =
    (IsGrammarTextWithinLimits told.front.names told.front.grammar × IsResult after result)
    ⊎ ((fault : grammars.Fault) × IsFirstFault told.front.names told.front.grammar fault
    × (result ≡ fault_at line (faults.Grammar fault)))

-- bytes of the version, where None is version 1, are read as this lexicon, or have this first fault
abbrev pub IsReadIn : Option Version → List ℕ → FileResult → Type 0
IsReadIn None bytes result = (told : first.FileResult) × first.IsReadAs bytes told × (result ≡ same_result told)
IsReadIn (Some version) bytes result = IsResult (reading_in version bytes) result

-- the bytes of a lexicon file of any version are read as this lexicon, or have this first fault; the first line tells the version
abbrev pub IsReadAs : List ℕ → FileResult → Type 0
IsReadAs bytes result = IsReadIn (version_of bytes) bytes result

-- what is read where the grammar's text has no fault
abbrev pub if_grammatical : Reading → Reading
if_grammatical (Asks line told after) = if_grammatical after
if_grammatical reading = reading

-- all lines were read without a fault but one that the grammar's text may have, and this is what they told
abbrev pub HasContent : Reading → Told → Type 0
HasContent reading told = if_grammatical reading ≡ Content told
