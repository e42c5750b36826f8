-- How a run ends, and what it leaves (own).
use Rattle.std.specs.Prelude.{ℕ, List}
use Rattle.outside.specs.Files.{Files}
use Rattle.text_definitions.specs.LineTexts.{LineFault}
use Rattle.trie_text_definitions.specs.VersionFaults.{FileFault}
use Rattle.rule_file_definitions.specs.RuleFileFaults as rule_file
use Rattle.paradigm_file_definitions.specs.Records as records
use Rattle.paradigm_file_definitions.specs.TableFaults.{TableWhy}
use Rattle.paradigm_file_definitions.specs.StemFaults.{StemWhy}
use Rattle.conversion_definitions.specs.Conversions.{ConversionFault}
use Rattle.chain_definitions.specs.ChainFaults as chain
use Rattle.segmentation_definitions.specs.Listings.{Key}
use Rattle.note_definitions.specs.NoteFaults as note

-- why a file is refused: it is too large, or it has this fault as a lexicon file, a rule file, a table file, a stem file, a text
-- in a scheme, or a note
pub data AnyFault : Type 0 where
  Large : AnyFault
  Lexicon : (fault : FileFault) → AnyFault
  Rules : (fault : rule_file.Fault) → AnyFault
  Tables : (fault : records.Fault TableWhy) → AnyFault
  Stems : (fault : records.Fault StemWhy) → AnyFault
  Spelling : (fault : ConversionFault) → AnyFault
  Note : (why : note.Why) → AnyFault

-- how a run ends, where no device fails and memory is found; a refused file is told by the place of its name among the
-- words, counted from 0; the input of a session may be too long; and a line may have no answer, or several, of which the keys of
-- the first two are told
pub data End : Type 0 where
  Done : End
  Usage : End
  ReadFault : End
  BadFile : (word : ℕ) → (fault : AnyFault) → End
  BadText : (fault : LineFault) → End
  BadChain : (fault : chain.Fault) → End
  TooMuch : End
  NoAnswer : End
  Several : (first second : List Key) → End
  BadMark : End

-- what a run writes, the files after it, and how it ends
pub record Outcome : Type 0 where
  pub output : List ℕ
  pub files : Files
  pub end : End

-- what a run writes that leaves the files as they were
abbrev pub outcome_over : Files → List ℕ → End → Outcome
outcome_over files output end = record { output = output; files = files; end = end }

-- the exit status of a run that ends so
abbrev pub status_of_end : End → ℕ
status_of_end Done = 0
status_of_end Usage = 2
status_of_end ReadFault = 3
status_of_end (BadFile word fault) = 5
status_of_end (BadText fault) = 6
status_of_end TooMuch = 7
status_of_end (BadChain fault) = 9
status_of_end NoAnswer = 10
status_of_end (Several first second) = 11
status_of_end BadMark = 12
