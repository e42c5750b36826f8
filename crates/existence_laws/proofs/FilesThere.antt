-- What a file tells is there: its bytes are read by computing, and where a grammar asks, its first fault is decided.
use Rattle.std.proofs.Common.{◌≡◌, ◌≤◌, ◌⊎◌, inl, inr, ℕ, List, length, Option, Some, None, Result, Ok, Err, refl, arith}
use Rattle.outside.specs.Files.{Files, contents_of}
use Rattle.lexicon_definitions.specs.GrammarFaults.{IsFirstFault, IsGrammarTextWithinLimits}
use Rattle.lexicon_definitions.specs.GrammarFaults as grammars
use Rattle.lexicon_text_definitions.specs.declared.limits.TheConstants.{MOST_FILE_BYTES}
use Rattle.lexicon_text_definitions.specs.FileFaults as first_faults
use Rattle.lexicon_text_definitions.specs.FileContents as first_contents
use Rattle.lexicon_text_definitions.specs.FileReadings as first
use Rattle.lexicon_text_definitions.specs.FileReadings.{reading_of}
use Rattle.trie_text_definitions.specs.Versions.{Version, version_of}
use Rattle.trie_text_definitions.specs.VersionFaults as faults
use Rattle.trie_text_definitions.specs.VersionFaults.{FileResult, fault_at, same_result}
use Rattle.trie_text_definitions.specs.VersionReadings.{Reading, Content, Fault as FaultAt, Asks, IsResult, IsReadIn, IsReadAs, lexicon_told, reading_in}
use Rattle.rule_file_definitions.specs.RuleFileFaults.{Grammar}
use Rattle.rule_file_definitions.specs.RuleFileReadings as rule_file
use Rattle.rule_file_definitions.specs.RuleFileReadings.{IsDecided, read_before_grammar}
use Rattle.run_definitions.specs.Ends as ends
use Rattle.run_definitions.specs.Ends.{AnyFault, Large}
use Rattle.run_definitions.specs.LexiconTells as lexicons
use Rattle.run_definitions.specs.LexiconTells.{FileTells, DoesTell, IsLexicon}
use Rattle.run_definitions.specs.SourceTells as sources
use Rattle.run_definitions.specs.SourceTells.{SourceTells, DoesTellSource}
use Rattle.existence_laws.proofs.Decisions.{is_below}
use Rattle.existence_laws.proofs.StateDecisions.{first_fault_there}

-- ---- lexicon files and rule files

-- a file of version 1
first_there : (reading : first.Reading) → (result : first.FileResult) × first.IsResult reading result
first_there (first.Content told) = (Ok (first_contents.lexicon_told told), refl)
first_there (first.Fault line why) = (first.fault_at line why, refl)
first_there (first.Asks line told after) = asked (first_fault_there told.names told.grammar) (first_there after)
  where
    asked : IsGrammarTextWithinLimits told.names told.grammar ⊎ ((fault : grammars.Fault) × IsFirstFault told.names told.grammar fault)
        → (result : first.FileResult) × first.IsResult after result
        → (result : first.FileResult) × first.IsResult (first.Asks line told after) result
    asked (inl within) rest = (rest.0, inl (within, rest.1))
    asked (inr fault) rest = (first.fault_at line (first_faults.Grammar fault.0), inr (fault.0, fault.1, refl))

-- a file of version 2 or 3
result_there : (reading : Reading) → (result : FileResult) × IsResult reading result
result_there (Content told) = (Ok (lexicon_told told), refl)
result_there (FaultAt line why) = (fault_at line why, refl)
result_there (Asks line told after) = asked (first_fault_there told.front.names told.front.grammar) (result_there after)
  where
    asked : IsGrammarTextWithinLimits told.front.names told.front.grammar
        ⊎ ((fault : grammars.Fault) × IsFirstFault told.front.names told.front.grammar fault)
        → (result : FileResult) × IsResult after result
        → (result : FileResult) × IsResult (Asks line told after) result
    asked (inl within) rest = (rest.0, inl (within, rest.1))
    asked (inr fault) rest = (fault_at line (faults.Grammar fault.0), inr (fault.0, fault.1, refl))

version_read_there : (version : Option Version) (bytes : List ℕ) → (result : FileResult) × IsReadIn version bytes result
version_read_there None bytes = let read = first_there (reading_of bytes) in (same_result read.0, (read.0, read.1, refl))
version_read_there (Some version) bytes = result_there (reading_in version bytes)

pub lexicon_read_there : (bytes : List ℕ) → (result : FileResult) × IsReadAs bytes result
lexicon_read_there bytes = version_read_there (version_of bytes) bytes

decided_there : (before : rule_file.FileResult) → (result : rule_file.FileResult) × IsDecided before result
decided_there (Err fault) = (Err fault, refl)
decided_there (Ok set) = asked (first_fault_there set.names set.grammar)
  where
    asked : IsGrammarTextWithinLimits set.names set.grammar ⊎ ((fault : grammars.Fault) × IsFirstFault set.names set.grammar fault)
        → (result : rule_file.FileResult) × IsDecided (Ok set) result
    asked (inl within) = (Ok set, inl (within, refl))
    asked (inr fault) = (Err (Grammar fault.0), inr (fault.0, fault.1, refl))

pub rules_read_there : (bytes : List ℕ) → (result : rule_file.FileResult) × rule_file.IsReadAs bytes result
rules_read_there bytes = decided_there (read_before_grammar bytes)

-- ---- what files tell

pub lexicon_told_there : (files : Files) (name : List ℕ) → (tells : FileTells) × DoesTell files name tells
lexicon_told_there files name = by_contents (contents_of files name) refl
  where
    by_result : (bytes : List ℕ) → contents_of files name ≡ Some bytes → length bytes ≤ MOST_FILE_BYTES
        → (result : FileResult) → IsReadAs bytes result → (tells : FileTells) × DoesTell files name tells
    by_result bytes e small (Ok lexicon) is = (lexicons.Holds lexicon, IsLexicon bytes e small lexicon is refl)
    by_result bytes e small (Err fault) is = (lexicons.Refused (ends.Lexicon fault), lexicons.IsFaulty bytes e small fault is refl)

    by_contents : (found : Option (List ℕ)) → contents_of files name ≡ found → (tells : FileTells) × DoesTell files name tells
    by_contents None e = (lexicons.NotThere, lexicons.IsMissing e refl)
    by_contents (Some bytes) e = elim (is_below MOST_FILE_BYTES (length bytes)) [
      | inl large ↦ (lexicons.Refused Large, lexicons.IsLarge bytes e large refl)
      | inr small ↦ let read = lexicon_read_there bytes in by_result bytes e (omega (arith, small)) read.0 read.1
    ]

module _ {A Fault : Type 0} (is_read : List ℕ → Result A Fault → Type 0) (named : Fault → AnyFault)
    (there : (bytes : List ℕ) → (result : Result A Fault) × is_read bytes result) where
  pub source_told_there : (files : Files) (name : List ℕ) → (tells : SourceTells A) × DoesTellSource is_read named files name tells
  source_told_there files name = by_contents (contents_of files name) refl
    where
      by_result : (bytes : List ℕ) → contents_of files name ≡ Some bytes → length bytes ≤ MOST_FILE_BYTES
          → (result : Result A Fault) → is_read bytes result → (tells : SourceTells A) × DoesTellSource is_read named files name tells
      by_result bytes e small (Ok held) is = (sources.Holds held, sources.IsSound bytes e small held is refl)
      by_result bytes e small (Err fault) is = (sources.Refused (named fault), sources.IsFaulty bytes e small fault is refl)

      by_contents : (found : Option (List ℕ)) → contents_of files name ≡ found → (tells : SourceTells A) × DoesTellSource is_read named files name tells
      by_contents None e = (sources.Missing, sources.IsMissing e refl)
      by_contents (Some bytes) e = elim (is_below MOST_FILE_BYTES (length bytes)) [
        | inl large ↦ (sources.Refused Large, sources.IsLarge bytes e large refl)
        | inr small ↦ let read = there bytes in by_result bytes e (omega (arith, small)) read.0 read.1
      ]
