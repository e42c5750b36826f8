-- What the parts of a run leave of its output: where a file was not read, and where an output is written before a status.
use Rattle.std.specs.Prelude.{◌≡◌, ℕ, ◌⊎◌, List, Option}
use Rattle.outside.specs.Counts.{Rose}
use Rattle.outside.specs.Told.{bytes_after, GrowsByPrefix}
use Rattle.commands.specs.declared.status.Status.{Status}
use Rattle.commands.specs.declared.status.Status.TheVariants.{Memory, ReadFault, WriteFault}
use Rattle.commands.specs.Headline.{IsNoFault}

-- how a run ends where a file was not read: memory was wanting, or the device failed, or the file is not there
abbrev pub IsUnread : Status → Type 0 → Type 0 → Type 0
IsUnread status failed lacking = (status ≡ Memory) ⊎ ((status ≡ ReadFault) × (failed ⊎ lacking))

-- what writing all of an output before a status leaves: all of it, where the status is given; else a prefix of it, and the
-- status is that of the sink's fault, which it counted, or of want of memory
pub record Finishes (status result : Status) (old new : Option (List ℕ)) (faults now : ℕ) (output : List ℕ) : Type 0 where
  pub all : IsNoFault result → (result ≡ status) × (new ≡ bytes_after old output)
  pub prefix : GrowsByPrefix old new output
  pub write_fault : result ≡ WriteFault → Rose faults now
  pub read_fault : result ≡ ReadFault → ⊥

-- a refusal was written, or nothing for want of memory
pub data Refuses (status result : Status) (old new : Option (List ℕ)) (faults now : ℕ) (output : List ℕ) : Type 0 where
  Silently : result ≡ Memory → new ≡ old → Refuses status result old new faults now output
  InWords : Finishes status result old new faults now output → Refuses status result old new faults now output

-- nothing was written for want of memory, or an output that may be written before a status, and then its status
pub data Wrote (May : Status → List ℕ → Type 0) (result : Status) (old new : Option (List ℕ)) (faults now : ℕ) : Type 0 where
  Nothing : result ≡ Memory → new ≡ old → Wrote May result old new faults now
  Something : (status : Status) (output : List ℕ) → May status output → Finishes status result old new faults now output
      → Wrote May result old new faults now
