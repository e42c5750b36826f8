-- The outcome of a run of the program: what it writes, the files afterwards, and how it ends (own). Words of no command
-- come first; then each command has its case.
use Rattle.std.specs.Prelude.{◌≡◌, ℕ, List, Option}
use Rattle.outside.specs.Files.{Files}
use Rattle.run_definitions.specs.Commands.{Command, Segment, Check, Build, Read, Batch, Demo, Convert, Join, Split, Annotate, Reread, Migrate, AreWordsOf, AreOfNoCommand}
use Rattle.run_definitions.specs.Ends as ends
use Rattle.run_definitions.specs.Refusals.{usage_outcome}
use Rattle.run_definitions.specs.SegmentOutcomes.{IsSegmentOutcome}
use Rattle.run_definitions.specs.CheckOutcomes.{IsCheckOutcome}
use Rattle.run_definitions.specs.BuildOutcomes.{IsBuildOutcome}
use Rattle.run_definitions.specs.ReadOutcomes.{IsReadOutcome, IsReadSoFar}
use Rattle.run_definitions.specs.BatchOutcomes.{IsBatchOutcome, IsBatchSoFar}
use Rattle.run_definitions.specs.DemoOutcomes.{IsDemoOutcome}
use Rattle.run_definitions.specs.ConvertOutcomes.{IsConvertOutcome}
use Rattle.run_definitions.specs.JoinOutcomes.{IsJoinOutcome}
use Rattle.run_definitions.specs.SplitOutcomes.{IsSplitOutcome}
use Rattle.run_definitions.specs.AnnotateOutcomes.{IsAnnotateOutcome}
use Rattle.run_definitions.specs.RereadOutcomes.{IsRereadOutcome}
use Rattle.run_definitions.specs.MigrateOutcomes.{IsMigrateOutcome}

abbrev pub Outcome : Type 0
Outcome = ends.Outcome

-- the outcome of the command over these files and this input, which is None where the source does not tell it
abbrev pub IsOutcomeOf : Command → Files → Option (List ℕ) → Outcome → Type 0
IsOutcomeOf (Segment lex scheme text) files input outcome = IsSegmentOutcome lex scheme text files outcome
IsOutcomeOf (Check lex) files input outcome = IsCheckOutcome lex files outcome
IsOutcomeOf (Build rules tables stems out) files input outcome = IsBuildOutcome rules tables stems out files outcome
IsOutcomeOf (Read lex) files input outcome = IsReadOutcome lex files input outcome
IsOutcomeOf (Batch lex scheme file count) files input outcome = IsBatchOutcome lex scheme file count files outcome
IsOutcomeOf (Demo number) files input outcome = IsDemoOutcome number files outcome
IsOutcomeOf (Convert from to file out) files input outcome = IsConvertOutcome from to file out files outcome
IsOutcomeOf (Join lex chain) files input outcome = IsJoinOutcome lex chain files outcome
IsOutcomeOf (Split lex text count depth) files input outcome = IsSplitOutcome lex text count files outcome
IsOutcomeOf (Annotate lex mark out) files input outcome = IsAnnotateOutcome lex mark out files outcome
IsOutcomeOf (Reread lex file) files input outcome = IsRereadOutcome lex file files outcome
IsOutcomeOf (Migrate lex out) files input outcome = IsMigrateOutcome lex out files outcome

-- the outcome of a run with these words over these files and this input
pub data IsOutcome (words : List (List ℕ)) (files : Files) (input : Option (List ℕ)) (outcome : Outcome) : Type 0 where
  OfNoCommand : AreOfNoCommand words → outcome ≡ usage_outcome files → IsOutcome words files input outcome
  OfCommand : (command : Command) → AreWordsOf command words → IsOutcomeOf command files input outcome
      → IsOutcome words files input outcome

-- all that the command writes over these files and this input
abbrev pub IsOutputOf : Command → Files → Option (List ℕ) → List ℕ → Type 0
IsOutputOf command files input output = (outcome : Outcome) × IsOutcomeOf command files input outcome × (output ≡ outcome.output)

-- what the command may have come to write, of which a prefix is written where it stops: for `read` and for `batch` the replies to
-- some of the first lines, for any other command all of its output
abbrev pub IsSoFarOf : Command → Files → Option (List ℕ) → List ℕ → Type 0
IsSoFarOf (Segment lex scheme text) files input output = IsOutputOf (Segment lex scheme text) files input output
IsSoFarOf (Check lex) files input output = IsOutputOf (Check lex) files input output
IsSoFarOf (Build rules tables stems out) files input output = IsOutputOf (Build rules tables stems out) files input output
IsSoFarOf (Read lex) files input output = IsReadSoFar lex files input output
IsSoFarOf (Batch lex scheme file count) files input output = IsBatchSoFar lex scheme file count files output
IsSoFarOf (Demo number) files input output = IsOutputOf (Demo number) files input output
IsSoFarOf (Convert from to file out) files input output = IsOutputOf (Convert from to file out) files input output
IsSoFarOf (Join lex chain) files input output = IsOutputOf (Join lex chain) files input output
IsSoFarOf (Split lex text count depth) files input output = IsOutputOf (Split lex text count depth) files input output
IsSoFarOf (Annotate lex mark out) files input output = IsOutputOf (Annotate lex mark out) files input output
IsSoFarOf (Reread lex file) files input output = IsOutputOf (Reread lex file) files input output
IsSoFarOf (Migrate lex out) files input output = IsOutputOf (Migrate lex out) files input output

-- what a run with these words may have come to write over these files and this input
pub data IsSoFar (words : List (List ℕ)) (files : Files) (input : Option (List ℕ)) (output : List ℕ) : Type 0 where
  OfNone : AreOfNoCommand words → output ≡ (usage_outcome files).output → IsSoFar words files input output
  OfOne : (command : Command) → AreWordsOf command words → IsSoFarOf command files input output → IsSoFar words files input output
