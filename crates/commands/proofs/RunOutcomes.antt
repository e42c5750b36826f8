-- The outcome of a command is that of the run whose words are the command's.
use Rattle.std.proofs.Common.{◌≡◌, ℕ, List, Option, Some, None, refl, ap, ◌∙◌}
use Rattle.outside.specs.Files.{Files}
use Rattle.trie_text_definitions.proofs.OneVersionReading.{one_version_reading}
use Rattle.run_definitions.specs.Commands.{Command, Segment, Check, Build, Read, Batch, Demo, Convert, Join, Split, Annotate, Reread, Migrate, FileWord, AreWordsOf, AreOfNoCommand, DoWrite, WriteNoFile, files_of, out_of}
use Rattle.run_definitions.specs.Outcomes.{Outcome, IsOutcome, IsOutcomeOf, OfNoCommand, OfCommand}
use Rattle.run_definitions.specs.Refusals.{usage_outcome}
use Rattle.run_definitions.proofs.OneCommand.{one_command}
use Rattle.run_definitions.proofs.OneOutcome.{one_outcome}
use Rattle.commands.specs.declared.status.Status.{Status}
use Rattle.commands.specs.RunEnds.{Devices, Ran}
use Rattle.commands.proofs.Runs.{embedded}

module _ (words : List (List ℕ)) (command : Command) (are : AreWordsOf command words) where
  -- how the command ended is how the run ended
  pub run_ran : (input : Option (List ℕ)) (result : Status) (old new : Devices)
      → Ran (λ files outcome. IsOutcomeOf command files input outcome) (files_of command) (out_of command) result old new
      → Ran (λ files outcome. IsOutcome words files input outcome) (files_of command) (out_of command) result old new
  run_ran input result old new =
      embedded (λ files outcome. IsOutcomeOf command files input outcome) (λ files outcome. IsOutcome words files input outcome)
      (files_of command) (files_of command) (out_of command) result old new (λ files f outcome is. OfCommand command are is) (λ word m. m)

  -- what the words write is what the command writes
  pub written_by : (out : FileWord) → DoWrite words out → out_of command ≡ Some out
  written_by out (other, too, e) = ap out_of (one_command words command other are too) ∙ e

  pub writes_nothing : WriteNoFile words → (out : FileWord) → out_of command ≡ Some out → ⊥
  writes_nothing none out e = none out (command, are, e)

-- a command that writes no file has no file to write
pub writes_none : (command : Command) → ((out : FileWord) → out_of command ≡ Some out → ⊥) → out_of command ≡ None
writes_none (Segment lex scheme text) none = refl
writes_none (Check lex) none = refl
writes_none (Build rules tables stems out) none = absurd (none out refl)
writes_none (Read lex) none = refl
writes_none (Batch lex scheme file count) none = refl
writes_none (Demo number) none = refl
writes_none (Convert from to file out) none = absurd (none out refl)
writes_none (Join lex chain) none = refl
writes_none (Split lex text count depth) none = refl
writes_none (Annotate lex mark out) none = absurd (none out refl)
writes_none (Reread lex file) none = refl
writes_none (Migrate lex out) none = absurd (none out refl)

-- a run has one outcome
pub one_run_outcome : (words : List (List ℕ)) (input : Option (List ℕ)) (files : Files) (a b : Outcome) → IsOutcome words files input a
    → IsOutcome words files input b → a ≡ b
one_run_outcome words input files a b p q = one_outcome one_version_reading words files input a b p q

-- words of no command have their outcome
pub no_command : (words : List (List ℕ)) (files : Files) (input : Option (List ℕ)) → AreOfNoCommand words
    → IsOutcome words files input (usage_outcome files)
no_command words files input none = OfNoCommand none refl
