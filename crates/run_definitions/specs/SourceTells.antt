-- What the file under a name tells, whatever is read in it, and how a run goes on with that (own).
use Rattle.std.specs.Prelude.{◌≡◌, ℕ, ◌<◌, ◌≤◌, List, [], length, Some, None, Result, Ok, Err}
use Rattle.outside.specs.Files.{Files, contents_of}
use Rattle.lexicon_text_definitions.specs.declared.limits.TheConstants.{MOST_FILE_BYTES}
use Rattle.run_definitions.specs.Arguments.{FileWord}
use Rattle.run_definitions.specs.Ends.{Outcome, AnyFault, Large, ReadFault, BadFile, outcome_over}
use Rattle.run_definitions.specs.Refusals.{file_refusal}

-- what a file tells: that it is not there, why it is refused, or what it holds
pub data SourceTells (A : Type 0) : Type 0 where
  Missing : SourceTells A
  Refused : (fault : AnyFault) → SourceTells A
  Holds : (held : A) → SourceTells A

-- the file under the name tells this, where its bytes are read in this way and its faults have this name
pub data DoesTellSource {A Fault : Type 0} (is_read : List ℕ → Result A Fault → Type 0) (named : Fault → AnyFault) (files : Files)
    (name : List ℕ) (tells : SourceTells A) : Type 0 where
  IsMissing : contents_of files name ≡ None → tells ≡ Missing → DoesTellSource is_read named files name tells
  IsLarge : (bytes : List ℕ) → contents_of files name ≡ Some bytes → MOST_FILE_BYTES < length bytes → tells ≡ Refused Large
      → DoesTellSource is_read named files name tells
  IsFaulty : (bytes : List ℕ) → contents_of files name ≡ Some bytes → length bytes ≤ MOST_FILE_BYTES → (fault : Fault)
      → is_read bytes (Err fault) → tells ≡ Refused (named fault) → DoesTellSource is_read named files name tells
  IsSound : (bytes : List ℕ) → contents_of files name ≡ Some bytes → length bytes ≤ MOST_FILE_BYTES → (held : A)
      → is_read bytes (Ok held) → tells ≡ Holds held → DoesTellSource is_read named files name tells

-- by what a file tells: nothing is written, its refusal is, or it goes on with what the file holds
abbrev pub IsOutcomeAfter : {A : Type 0} → SourceTells A → FileWord → Files → Outcome → (A → Type 0) → Type 0
IsOutcomeAfter Missing word files outcome following = outcome ≡ outcome_over files [] ReadFault
IsOutcomeAfter (Refused fault) word files outcome following =
    outcome ≡ outcome_over files (file_refusal word.name fault) (BadFile word.place fault)
IsOutcomeAfter (Holds held) word files outcome following = following held
