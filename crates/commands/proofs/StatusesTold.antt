-- A status that tells the end of an outcome has its exit status; so what was written of an outcome, and what its status tells, are two
-- facts.
use Rattle.std.proofs.Common.{◌≡◌, ℕ, List, Option, sym, ap}
use Rattle.outside.specs.Files.{Files}
use Rattle.run_definitions.specs.Ends.{End, Outcome, status_of_end}
use Rattle.commands.specs.declared.status.Status.{Status}
use Rattle.commands.specs.declared.status.Status.TheVariants.{Done, Memory, Usage, ReadFault, WriteFault, BadFile, BadText, TooMuch, BadChain, NoAnswer, Several, BadMark}
use Rattle.commands.specs.Headline.{exit_status, WroteAll}
use Rattle.commands.specs.Faults.{Tells, TellsEnd}
use Rattle.commands.specs.RunEnds.{WroteOutcome}

exit_told : (status : Status) (end : End) → Tells status end → exit_status status ≡ status_of_end end
exit_told Done end t = sym (ap status_of_end t)
exit_told Usage end t = sym (ap status_of_end t)
exit_told ReadFault end t = sym (ap status_of_end t)
exit_told (BadFile word fault) end t = sym (ap status_of_end t)
exit_told (BadText fault) end t = sym (ap status_of_end t)
exit_told TooMuch end t = sym (ap status_of_end t)
exit_told (BadChain fault) end t = sym (ap status_of_end t)
exit_told NoAnswer end t = sym (ap status_of_end t)
exit_told (Several first second) end t = sym (ap status_of_end t)
exit_told BadMark end t = sym (ap status_of_end t)
exit_told Memory end t = absurd t
exit_told WriteFault end t = absurd t

module _ (P : Outcome → Type 0) (after : Option Files) (old : List ℕ) (written : Option (List ℕ)) (status : Status)
    (w : WroteOutcome P after old written status) where
  pub wrote_all : WroteAll P after old written status
  wrote_all = record {
    outcome = w.outcome;
    is_it = w.is_it;
    output = w.output;
    files = w.files;
    status = exit_told status w.outcome.end w.told;
  }

  pub tells_end : TellsEnd P status
  tells_end = record { outcome = w.outcome; is_it = w.is_it; told = w.told }
