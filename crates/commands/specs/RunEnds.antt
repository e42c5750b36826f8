-- How a run of a command ends, and what it leaves of the devices.
use Rattle.std.specs.Prelude.{◌≡◌, ℕ, ◌⊎◌, ◌++◌, List, [], Option, Some, Contains}
use Rattle.outside.specs.Counts.{Rose}
use Rattle.outside.specs.Files.{Files, Lacks, with_file, told_with, told_without}
use Rattle.run_definitions.specs.Commands.{FileWord}
use Rattle.run_definitions.specs.Ends as ends
use Rattle.run_definitions.specs.Ends.{End, Outcome, outcome_over}
use Rattle.commands.specs.declared.status.Status.{Status}
use Rattle.commands.specs.declared.status.Status.TheVariants.{Done, Memory, Usage, ReadFault, WriteFault}
use Rattle.commands.specs.Faults.{Tells}
use Rattle.commands.specs.Ends.{Finishes}

-- what the devices tell: the files, how many reads and how many writes of files failed, the bytes that were written to the
-- output, and how many writes to it failed
pub record Devices : Type 0 where
  pub files : Option Files
  pub failed_reads : ℕ
  pub failed_writes : ℕ
  pub written : Option (List ℕ)
  pub faults : ℕ

abbrev pub devices : Option Files → ℕ → ℕ → Option (List ℕ) → ℕ → Devices
devices files failed_reads failed_writes written faults =
    record { files = files; failed_reads = failed_reads; failed_writes = failed_writes; written = written; faults = faults }

-- such an outcome has this output, leaves these files, and ends as the status tells
pub record HasOutcome (IsIt : Outcome → Type 0) (status : Status) (output : List ℕ) (after : Files) : Type 0 where
  pub end : End
  pub told : Tells status end
  pub is_it : IsIt (record { output = output; files = after; end = end })

-- all the output of such an outcome was written, the files are as it leaves them, and the status tells its end
pub record WroteOutcome (IsIt : Outcome → Type 0) (after : Option Files) (old : List ℕ) (written : Option (List ℕ)) (status : Status) : Type 0 where
  pub outcome : Outcome
  pub is_it : IsIt outcome
  pub output : written ≡ Some (old ++ outcome.output)
  pub files : after ≡ Some outcome.files
  pub told : Tells status outcome.end

-- neither a file nor output was written
pub record Leaves (old new : Devices) : Type 0 where
  pub files : new.files ≡ old.files
  pub failed_writes : new.failed_writes ≡ old.failed_writes
  pub written : new.written ≡ old.written

-- a file that is to be read is not there, and the outcome is that
pub record IsNotThere (IsIt : Files → Outcome → Type 0) (reads : List FileWord) (files : Option Files) : Type 0 where
  pub word : FileWord
  pub is_read : Contains reads word
  pub lacks : Lacks files word.name
  pub is_it : (told : Files) → files ≡ Some told → IsIt told (outcome_over told [] ends.ReadFault)

-- no file was written, and then the output of an outcome that leaves the files
pub record Prints (IsIt : Files → Outcome → Type 0) (result : Status) (old new : Devices) : Type 0 where
  pub status : Status
  pub output : List ℕ
  pub not_usage : status ≡ Usage → ⊥
  pub files : new.files ≡ old.files
  pub failed_writes : new.failed_writes ≡ old.failed_writes
  pub has : (told : Files) → old.files ≡ Some told → HasOutcome (IsIt told) status output told
  pub finishes : Finishes status result old.written new.written old.faults new.faults output

-- a file was to be written with this text by an outcome that ends well, and this failed: nothing is said of the file, all
-- others stay, and there is no output
pub record Spoils (IsIt : Files → Outcome → Type 0) (out : FileWord) (result : Status) (old new : Devices) : Type 0 where
  pub text : List ℕ
  pub output : List ℕ
  pub has : (told : Files) → old.files ≡ Some told → HasOutcome (IsIt told) Done output (with_file told out.name text)
  pub others : told_without new.files out.name ≡ told_without old.files out.name
  pub written : new.written ≡ old.written
  pub cause : (result ≡ Memory) ⊎ ((result ≡ WriteFault) × Rose old.failed_writes new.failed_writes)

-- the file was written, and then the output of the outcome
pub record Stores (IsIt : Files → Outcome → Type 0) (out : FileWord) (result : Status) (old new : Devices) : Type 0 where
  pub text : List ℕ
  pub output : List ℕ
  pub has : (told : Files) → old.files ≡ Some told → HasOutcome (IsIt told) Done output (with_file told out.name text)
  pub files : new.files ≡ told_with old.files out.name text
  pub failed_writes : new.failed_writes ≡ old.failed_writes
  pub finishes : Finishes Done result old.written new.written old.faults new.faults output

-- how a run ends that has such outcomes over files, reads these files and may write this one
pub data Ran (IsIt : Files → Outcome → Type 0) (reads : List FileWord) (writes : Option FileWord) (result : Status) (old new : Devices)
    : Type 0 where
  Wanting : result ≡ Memory → Leaves old new → Ran IsIt reads writes result old new
  NotRead : result ≡ ReadFault → Leaves old new → Rose old.failed_reads new.failed_reads ⊎ IsNotThere IsIt reads old.files
      → Ran IsIt reads writes result old new
  Printed : Prints IsIt result old new → Ran IsIt reads writes result old new
  NotWritten : (out : FileWord) → writes ≡ Some out → Spoils IsIt out result old new → Ran IsIt reads writes result old new
  Written : (out : FileWord) → writes ≡ Some out → Stores IsIt out result old new → Ran IsIt reads writes result old new
