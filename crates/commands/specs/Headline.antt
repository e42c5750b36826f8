-- What the headline says of a run: its output, the files after it, and its exit status.
use Rattle.std.specs.Prelude.{◌≡◌, ℕ, ◌++◌, ◌⊎◌, List, Option, Some}
use Rattle.outside.specs.Files.{Files}
use Rattle.outside.specs.Told.{GrowsByPrefix}
use Rattle.run_definitions.specs.Ends.{Outcome, status_of_end}
use Rattle.commands.specs.declared.status.Status.{Status}
use Rattle.commands.specs.declared.status.Status.TheVariants.{Done, Memory, Usage, ReadFault, WriteFault, BadFile, BadText, TooMuch, BadChain, NoAnswer, Several, BadMark}

-- the exit status of the process
abbrev pub exit_status : Status → ℕ
exit_status Done = 0
exit_status Memory = 1
exit_status Usage = 2
exit_status ReadFault = 3
exit_status WriteFault = 4
exit_status (BadFile word fault) = 5
exit_status (BadText fault) = 6
exit_status TooMuch = 7
exit_status (BadChain fault) = 9
exit_status NoAnswer = 10
exit_status (Several first second) = 11
exit_status BadMark = 12

-- the status is neither of a device that failed nor of want of memory
abbrev pub IsNoFault : Status → Type 0
IsNoFault Done = Unit {0}
IsNoFault Usage = Unit {0}
IsNoFault (BadFile word fault) = Unit {0}
IsNoFault (BadText fault) = Unit {0}
IsNoFault TooMuch = Unit {0}
IsNoFault (BadChain fault) = Unit {0}
IsNoFault NoAnswer = Unit {0}
IsNoFault (Several first second) = Unit {0}
IsNoFault BadMark = Unit {0}
IsNoFault ReadFault = ⊥
IsNoFault WriteFault = ⊥
IsNoFault Memory = ⊥

-- how a run of words of no command may end: their refusal is written, or writing it failed, or memory was wanting
abbrev pub MayEndNoCommand : Status → Type 0
MayEndNoCommand Usage = Unit {0}
MayEndNoCommand WriteFault = Unit {0}
MayEndNoCommand Memory = Unit {0}
MayEndNoCommand Done = ⊥
MayEndNoCommand ReadFault = ⊥
MayEndNoCommand (BadFile word fault) = ⊥
MayEndNoCommand (BadText fault) = ⊥
MayEndNoCommand TooMuch = ⊥
MayEndNoCommand (BadChain fault) = ⊥
MayEndNoCommand NoAnswer = ⊥
MayEndNoCommand (Several first second) = ⊥
MayEndNoCommand BadMark = ⊥

-- the run wrote all the output of such an outcome, the files are as it leaves them, and the exit status is that of its end
pub record WroteAll (IsIt : Outcome → Type 0) (after : Option Files) (old : List ℕ) (written : Option (List ℕ)) (result : Status) : Type 0 where
  pub outcome : Outcome
  pub is_it : IsIt outcome
  pub output : written ≡ Some (old ++ outcome.output)
  pub files : after ≡ Some outcome.files
  pub status : exit_status result ≡ status_of_end outcome.end

-- nothing was written, or a prefix of such an output
abbrev pub WrotePrefix : (List ℕ → Type 0) → Option (List ℕ) → Option (List ℕ) → Type 0
WrotePrefix IsIt old new = (new ≡ old) ⊎ ((output : List ℕ) × IsIt output × GrowsByPrefix old new output)
