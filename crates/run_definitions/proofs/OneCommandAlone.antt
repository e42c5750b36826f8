-- Words of one command have its outcome and no other, since words are of one command; and a name is that of one command alone, so
-- words that begin with it are this command's or no command's.
use Rattle.std.proofs.Common.{◌≡◌, ℕ, List, ◌∷◌, Option, Some, sym, ◌∙◌, ap, subst}
use Rattle.std.specs.Prelude.{◌↔◌, Bool, false, true, codes}
use Rattle.std.specs.Str.{bytes_eq}
use Rattle.outside.specs.Files.{Files}
use Rattle.text_definitions.specs.Schemes.{Scheme}
use Rattle.conversion_definitions.specs.AnySchemes.{AnyScheme}
use Rattle.run_definitions.specs.Arguments.{FileWord}
use Rattle.run_definitions.specs.Ends.{Outcome}
use Rattle.run_definitions.specs.Refusals.{usage_outcome}
use Rattle.run_definitions.specs.SegmentOutcomes as segment
use Rattle.run_definitions.specs.SegmentOutcomes.{IsSegmentRun}
use Rattle.run_definitions.specs.CheckOutcomes as check
use Rattle.run_definitions.specs.CheckOutcomes.{IsCheckRun}
use Rattle.run_definitions.specs.BuildOutcomes as build
use Rattle.run_definitions.specs.BuildOutcomes.{IsBuildRun}
use Rattle.run_definitions.specs.ReadOutcomes as read
use Rattle.run_definitions.specs.ReadOutcomes.{IsReadRun}
use Rattle.run_definitions.specs.BatchOutcomes as batch
use Rattle.run_definitions.specs.BatchOutcomes.{IsBatchRun}
use Rattle.run_definitions.specs.DemoOutcomes as demo
use Rattle.run_definitions.specs.DemoOutcomes.{IsDemoRun}
use Rattle.run_definitions.specs.ConvertOutcomes as convert
use Rattle.run_definitions.specs.ConvertOutcomes.{IsConvertRun}
use Rattle.run_definitions.specs.JoinOutcomes as join
use Rattle.run_definitions.specs.JoinOutcomes.{IsJoinRun}
use Rattle.run_definitions.specs.SplitOutcomes as split
use Rattle.run_definitions.specs.SplitOutcomes.{IsSplitRun}
use Rattle.run_definitions.specs.AnnotateOutcomes as annotate
use Rattle.run_definitions.specs.AnnotateOutcomes.{IsAnnotateRun}
use Rattle.run_definitions.specs.RereadOutcomes as reread
use Rattle.run_definitions.specs.RereadOutcomes.{IsRereadRun}
use Rattle.run_definitions.specs.MigrateOutcomes as migrate
use Rattle.run_definitions.specs.MigrateOutcomes.{IsMigrateRun}
use Rattle.run_definitions.specs.Commands.{Command, Segment, Check, Build, Read, Batch, Demo, Convert, Join, Split, Annotate, Reread, Migrate, name_of_command, AreWordsOf, AreOfNoCommand, out_of, DoWrite, ReadsInput, DoReadInput}
use Rattle.run_definitions.specs.Outcomes.{IsOutcome, IsOutcomeOf, OfNoCommand, OfCommand, IsSoFar, IsSoFarOf, OfNone, OfOne}
use Rattle.run_definitions.proofs.OneCommand.{one_command}

-- ---- words of one command

module _ (words : List (List ℕ)) (command : Command) (are : AreWordsOf command words) where
  outcome_of : (files : Files) (input : Option (List ℕ)) (outcome : Outcome) → IsOutcome words files input outcome
      → IsOutcomeOf command files input outcome
  outcome_of files input outcome (OfNoCommand none e) = absurd (none command are)
  outcome_of files input outcome (OfCommand other too is) =
      subst (λ (c : Command). IsOutcomeOf c files input outcome) (one_command words other command too are) is

  pub outcome_alone : (files : Files) (input : Option (List ℕ)) (outcome : Outcome)
      → IsOutcome words files input outcome ↔ IsOutcomeOf command files input outcome
  outcome_alone files input outcome = (outcome_of files input outcome, OfCommand command are)

  so_far_of : (files : Files) (input : Option (List ℕ)) (output : List ℕ) → IsSoFar words files input output
      → IsSoFarOf command files input output
  so_far_of files input output (OfNone none e) = absurd (none command are)
  so_far_of files input output (OfOne other too is) =
      subst (λ (c : Command). IsSoFarOf c files input output) (one_command words other command too are) is

  pub so_far_alone : (files : Files) (input : Option (List ℕ)) (output : List ℕ)
      → IsSoFar words files input output ↔ IsSoFarOf command files input output
  so_far_alone files input output = (so_far_of files input output, OfOne command are)

  -- what the words write is what the command writes
  pub writes_alone : (out : FileWord) → DoWrite words out ↔ (out_of command ≡ Some out)
  writes_alone out = (
    λ (other, too, e). ap out_of (one_command words command other are too) ∙ e,
    λ e. (command, are, e),
  )

  pub input_alone : DoReadInput words ↔ ReadsInput command
  input_alone = (
    λ (other, too, reads). subst ReadsInput (one_command words other command too are) reads,
    λ reads. (command, are, reads),
  )

refused : (words : List (List ℕ)) (files : Files) (input : Option (List ℕ)) (outcome : Outcome) → AreOfNoCommand words
    → IsOutcome words files input outcome → outcome ≡ usage_outcome files
refused words files input outcome none (OfNoCommand other e) = e
refused words files input outcome none (OfCommand command are is) = absurd (none command are)

-- words that begin with the name of no command are refused
pub none_alone : (words : List (List ℕ)) (files : Files) (input : Option (List ℕ)) (outcome : Outcome)
    → ((command : Command) (following : List (List ℕ)) → words ≡ name_of_command command ∷ following → ⊥)
    → IsOutcome words files input outcome ↔ (outcome ≡ usage_outcome files)
none_alone words files input outcome not =
    let none : AreOfNoCommand words = λ command are. not command are.following are.are in
    (refused words files input outcome none, OfNoCommand none)

-- ---- names of one command alone

abbrev is_named : List ℕ → List ℕ → Bool
is_named name word = bytes_eq word name

not_both : false ≡ true → ⊥
not_both e = cc (e)

only_segment : (P : Command → Type 0) → ((lex : FileWord) (scheme : Scheme) (text : List ℕ) → P (Segment lex scheme text))
    → (command : Command) → name_of_command command ≡ codes "segment" → P command
only_segment P own (Segment lex scheme text) e = own lex scheme text
only_segment P own (Check lex) e = absurd (not_both (ap (is_named (codes "segment")) e))
only_segment P own (Build rules tables stems out) e = absurd (not_both (ap (is_named (codes "segment")) e))
only_segment P own (Read lex) e = absurd (not_both (ap (is_named (codes "segment")) e))
only_segment P own (Batch lex scheme file count) e = absurd (not_both (ap (is_named (codes "segment")) e))
only_segment P own (Demo number) e = absurd (not_both (ap (is_named (codes "segment")) e))
only_segment P own (Convert from to file out) e = absurd (not_both (ap (is_named (codes "segment")) e))
only_segment P own (Join lex chain) e = absurd (not_both (ap (is_named (codes "segment")) e))
only_segment P own (Split lex text count depth) e = absurd (not_both (ap (is_named (codes "segment")) e))
only_segment P own (Annotate lex mark out) e = absurd (not_both (ap (is_named (codes "segment")) e))
only_segment P own (Reread lex file) e = absurd (not_both (ap (is_named (codes "segment")) e))
only_segment P own (Migrate lex out) e = absurd (not_both (ap (is_named (codes "segment")) e))

only_check : (P : Command → Type 0) → ((lex : FileWord) → P (Check lex))
    → (command : Command) → name_of_command command ≡ codes "check" → P command
only_check P own (Segment lex scheme text) e = absurd (not_both (ap (is_named (codes "check")) e))
only_check P own (Check lex) e = own lex
only_check P own (Build rules tables stems out) e = absurd (not_both (ap (is_named (codes "check")) e))
only_check P own (Read lex) e = absurd (not_both (ap (is_named (codes "check")) e))
only_check P own (Batch lex scheme file count) e = absurd (not_both (ap (is_named (codes "check")) e))
only_check P own (Demo number) e = absurd (not_both (ap (is_named (codes "check")) e))
only_check P own (Convert from to file out) e = absurd (not_both (ap (is_named (codes "check")) e))
only_check P own (Join lex chain) e = absurd (not_both (ap (is_named (codes "check")) e))
only_check P own (Split lex text count depth) e = absurd (not_both (ap (is_named (codes "check")) e))
only_check P own (Annotate lex mark out) e = absurd (not_both (ap (is_named (codes "check")) e))
only_check P own (Reread lex file) e = absurd (not_both (ap (is_named (codes "check")) e))
only_check P own (Migrate lex out) e = absurd (not_both (ap (is_named (codes "check")) e))

only_build : (P : Command → Type 0) → ((rules tables stems out : FileWord) → P (Build rules tables stems out))
    → (command : Command) → name_of_command command ≡ codes "build" → P command
only_build P own (Segment lex scheme text) e = absurd (not_both (ap (is_named (codes "build")) e))
only_build P own (Check lex) e = absurd (not_both (ap (is_named (codes "build")) e))
only_build P own (Build rules tables stems out) e = own rules tables stems out
only_build P own (Read lex) e = absurd (not_both (ap (is_named (codes "build")) e))
only_build P own (Batch lex scheme file count) e = absurd (not_both (ap (is_named (codes "build")) e))
only_build P own (Demo number) e = absurd (not_both (ap (is_named (codes "build")) e))
only_build P own (Convert from to file out) e = absurd (not_both (ap (is_named (codes "build")) e))
only_build P own (Join lex chain) e = absurd (not_both (ap (is_named (codes "build")) e))
only_build P own (Split lex text count depth) e = absurd (not_both (ap (is_named (codes "build")) e))
only_build P own (Annotate lex mark out) e = absurd (not_both (ap (is_named (codes "build")) e))
only_build P own (Reread lex file) e = absurd (not_both (ap (is_named (codes "build")) e))
only_build P own (Migrate lex out) e = absurd (not_both (ap (is_named (codes "build")) e))

only_read : (P : Command → Type 0) → ((lex : FileWord) → P (Read lex))
    → (command : Command) → name_of_command command ≡ codes "read" → P command
only_read P own (Segment lex scheme text) e = absurd (not_both (ap (is_named (codes "read")) e))
only_read P own (Check lex) e = absurd (not_both (ap (is_named (codes "read")) e))
only_read P own (Build rules tables stems out) e = absurd (not_both (ap (is_named (codes "read")) e))
only_read P own (Read lex) e = own lex
only_read P own (Batch lex scheme file count) e = absurd (not_both (ap (is_named (codes "read")) e))
only_read P own (Demo number) e = absurd (not_both (ap (is_named (codes "read")) e))
only_read P own (Convert from to file out) e = absurd (not_both (ap (is_named (codes "read")) e))
only_read P own (Join lex chain) e = absurd (not_both (ap (is_named (codes "read")) e))
only_read P own (Split lex text count depth) e = absurd (not_both (ap (is_named (codes "read")) e))
only_read P own (Annotate lex mark out) e = absurd (not_both (ap (is_named (codes "read")) e))
only_read P own (Reread lex file) e = absurd (not_both (ap (is_named (codes "read")) e))
only_read P own (Migrate lex out) e = absurd (not_both (ap (is_named (codes "read")) e))

only_batch : (P : Command → Type 0) → ((lex : FileWord) (scheme : Scheme) (file : FileWord) (count : ℕ) → P (Batch lex scheme file count))
    → (command : Command) → name_of_command command ≡ codes "batch" → P command
only_batch P own (Segment lex scheme text) e = absurd (not_both (ap (is_named (codes "batch")) e))
only_batch P own (Check lex) e = absurd (not_both (ap (is_named (codes "batch")) e))
only_batch P own (Build rules tables stems out) e = absurd (not_both (ap (is_named (codes "batch")) e))
only_batch P own (Read lex) e = absurd (not_both (ap (is_named (codes "batch")) e))
only_batch P own (Batch lex scheme file count) e = own lex scheme file count
only_batch P own (Demo number) e = absurd (not_both (ap (is_named (codes "batch")) e))
only_batch P own (Convert from to file out) e = absurd (not_both (ap (is_named (codes "batch")) e))
only_batch P own (Join lex chain) e = absurd (not_both (ap (is_named (codes "batch")) e))
only_batch P own (Split lex text count depth) e = absurd (not_both (ap (is_named (codes "batch")) e))
only_batch P own (Annotate lex mark out) e = absurd (not_both (ap (is_named (codes "batch")) e))
only_batch P own (Reread lex file) e = absurd (not_both (ap (is_named (codes "batch")) e))
only_batch P own (Migrate lex out) e = absurd (not_both (ap (is_named (codes "batch")) e))

only_demo : (P : Command → Type 0) → ((number : ℕ) → P (Demo number))
    → (command : Command) → name_of_command command ≡ codes "demo" → P command
only_demo P own (Segment lex scheme text) e = absurd (not_both (ap (is_named (codes "demo")) e))
only_demo P own (Check lex) e = absurd (not_both (ap (is_named (codes "demo")) e))
only_demo P own (Build rules tables stems out) e = absurd (not_both (ap (is_named (codes "demo")) e))
only_demo P own (Read lex) e = absurd (not_both (ap (is_named (codes "demo")) e))
only_demo P own (Batch lex scheme file count) e = absurd (not_both (ap (is_named (codes "demo")) e))
only_demo P own (Demo number) e = own number
only_demo P own (Convert from to file out) e = absurd (not_both (ap (is_named (codes "demo")) e))
only_demo P own (Join lex chain) e = absurd (not_both (ap (is_named (codes "demo")) e))
only_demo P own (Split lex text count depth) e = absurd (not_both (ap (is_named (codes "demo")) e))
only_demo P own (Annotate lex mark out) e = absurd (not_both (ap (is_named (codes "demo")) e))
only_demo P own (Reread lex file) e = absurd (not_both (ap (is_named (codes "demo")) e))
only_demo P own (Migrate lex out) e = absurd (not_both (ap (is_named (codes "demo")) e))

only_convert : (P : Command → Type 0) → ((from to : AnyScheme) (file out : FileWord) → P (Convert from to file out))
    → (command : Command) → name_of_command command ≡ codes "convert" → P command
only_convert P own (Segment lex scheme text) e = absurd (not_both (ap (is_named (codes "convert")) e))
only_convert P own (Check lex) e = absurd (not_both (ap (is_named (codes "convert")) e))
only_convert P own (Build rules tables stems out) e = absurd (not_both (ap (is_named (codes "convert")) e))
only_convert P own (Read lex) e = absurd (not_both (ap (is_named (codes "convert")) e))
only_convert P own (Batch lex scheme file count) e = absurd (not_both (ap (is_named (codes "convert")) e))
only_convert P own (Demo number) e = absurd (not_both (ap (is_named (codes "convert")) e))
only_convert P own (Convert from to file out) e = own from to file out
only_convert P own (Join lex chain) e = absurd (not_both (ap (is_named (codes "convert")) e))
only_convert P own (Split lex text count depth) e = absurd (not_both (ap (is_named (codes "convert")) e))
only_convert P own (Annotate lex mark out) e = absurd (not_both (ap (is_named (codes "convert")) e))
only_convert P own (Reread lex file) e = absurd (not_both (ap (is_named (codes "convert")) e))
only_convert P own (Migrate lex out) e = absurd (not_both (ap (is_named (codes "convert")) e))

only_join : (P : Command → Type 0) → ((lex : FileWord) (chain : List ℕ) → P (Join lex chain))
    → (command : Command) → name_of_command command ≡ codes "join" → P command
only_join P own (Segment lex scheme text) e = absurd (not_both (ap (is_named (codes "join")) e))
only_join P own (Check lex) e = absurd (not_both (ap (is_named (codes "join")) e))
only_join P own (Build rules tables stems out) e = absurd (not_both (ap (is_named (codes "join")) e))
only_join P own (Read lex) e = absurd (not_both (ap (is_named (codes "join")) e))
only_join P own (Batch lex scheme file count) e = absurd (not_both (ap (is_named (codes "join")) e))
only_join P own (Demo number) e = absurd (not_both (ap (is_named (codes "join")) e))
only_join P own (Convert from to file out) e = absurd (not_both (ap (is_named (codes "join")) e))
only_join P own (Join lex chain) e = own lex chain
only_join P own (Split lex text count depth) e = absurd (not_both (ap (is_named (codes "join")) e))
only_join P own (Annotate lex mark out) e = absurd (not_both (ap (is_named (codes "join")) e))
only_join P own (Reread lex file) e = absurd (not_both (ap (is_named (codes "join")) e))
only_join P own (Migrate lex out) e = absurd (not_both (ap (is_named (codes "join")) e))

only_split : (P : Command → Type 0) → ((lex : FileWord) (text : List ℕ) (count depth : ℕ) → P (Split lex text count depth))
    → (command : Command) → name_of_command command ≡ codes "split" → P command
only_split P own (Segment lex scheme text) e = absurd (not_both (ap (is_named (codes "split")) e))
only_split P own (Check lex) e = absurd (not_both (ap (is_named (codes "split")) e))
only_split P own (Build rules tables stems out) e = absurd (not_both (ap (is_named (codes "split")) e))
only_split P own (Read lex) e = absurd (not_both (ap (is_named (codes "split")) e))
only_split P own (Batch lex scheme file count) e = absurd (not_both (ap (is_named (codes "split")) e))
only_split P own (Demo number) e = absurd (not_both (ap (is_named (codes "split")) e))
only_split P own (Convert from to file out) e = absurd (not_both (ap (is_named (codes "split")) e))
only_split P own (Join lex chain) e = absurd (not_both (ap (is_named (codes "split")) e))
only_split P own (Split lex text count depth) e = own lex text count depth
only_split P own (Annotate lex mark out) e = absurd (not_both (ap (is_named (codes "split")) e))
only_split P own (Reread lex file) e = absurd (not_both (ap (is_named (codes "split")) e))
only_split P own (Migrate lex out) e = absurd (not_both (ap (is_named (codes "split")) e))

only_annotate : (P : Command → Type 0) → ((lex : FileWord) (mark : List ℕ) (out : FileWord) → P (Annotate lex mark out))
    → (command : Command) → name_of_command command ≡ codes "annotate" → P command
only_annotate P own (Segment lex scheme text) e = absurd (not_both (ap (is_named (codes "annotate")) e))
only_annotate P own (Check lex) e = absurd (not_both (ap (is_named (codes "annotate")) e))
only_annotate P own (Build rules tables stems out) e = absurd (not_both (ap (is_named (codes "annotate")) e))
only_annotate P own (Read lex) e = absurd (not_both (ap (is_named (codes "annotate")) e))
only_annotate P own (Batch lex scheme file count) e = absurd (not_both (ap (is_named (codes "annotate")) e))
only_annotate P own (Demo number) e = absurd (not_both (ap (is_named (codes "annotate")) e))
only_annotate P own (Convert from to file out) e = absurd (not_both (ap (is_named (codes "annotate")) e))
only_annotate P own (Join lex chain) e = absurd (not_both (ap (is_named (codes "annotate")) e))
only_annotate P own (Split lex text count depth) e = absurd (not_both (ap (is_named (codes "annotate")) e))
only_annotate P own (Annotate lex mark out) e = own lex mark out
only_annotate P own (Reread lex file) e = absurd (not_both (ap (is_named (codes "annotate")) e))
only_annotate P own (Migrate lex out) e = absurd (not_both (ap (is_named (codes "annotate")) e))

only_reread : (P : Command → Type 0) → ((lex file : FileWord) → P (Reread lex file))
    → (command : Command) → name_of_command command ≡ codes "reread" → P command
only_reread P own (Segment lex scheme text) e = absurd (not_both (ap (is_named (codes "reread")) e))
only_reread P own (Check lex) e = absurd (not_both (ap (is_named (codes "reread")) e))
only_reread P own (Build rules tables stems out) e = absurd (not_both (ap (is_named (codes "reread")) e))
only_reread P own (Read lex) e = absurd (not_both (ap (is_named (codes "reread")) e))
only_reread P own (Batch lex scheme file count) e = absurd (not_both (ap (is_named (codes "reread")) e))
only_reread P own (Demo number) e = absurd (not_both (ap (is_named (codes "reread")) e))
only_reread P own (Convert from to file out) e = absurd (not_both (ap (is_named (codes "reread")) e))
only_reread P own (Join lex chain) e = absurd (not_both (ap (is_named (codes "reread")) e))
only_reread P own (Split lex text count depth) e = absurd (not_both (ap (is_named (codes "reread")) e))
only_reread P own (Annotate lex mark out) e = absurd (not_both (ap (is_named (codes "reread")) e))
only_reread P own (Reread lex file) e = own lex file
only_reread P own (Migrate lex out) e = absurd (not_both (ap (is_named (codes "reread")) e))

only_migrate : (P : Command → Type 0) → ((lex out : FileWord) → P (Migrate lex out))
    → (command : Command) → name_of_command command ≡ codes "migrate" → P command
only_migrate P own (Segment lex scheme text) e = absurd (not_both (ap (is_named (codes "migrate")) e))
only_migrate P own (Check lex) e = absurd (not_both (ap (is_named (codes "migrate")) e))
only_migrate P own (Build rules tables stems out) e = absurd (not_both (ap (is_named (codes "migrate")) e))
only_migrate P own (Read lex) e = absurd (not_both (ap (is_named (codes "migrate")) e))
only_migrate P own (Batch lex scheme file count) e = absurd (not_both (ap (is_named (codes "migrate")) e))
only_migrate P own (Demo number) e = absurd (not_both (ap (is_named (codes "migrate")) e))
only_migrate P own (Convert from to file out) e = absurd (not_both (ap (is_named (codes "migrate")) e))
only_migrate P own (Join lex chain) e = absurd (not_both (ap (is_named (codes "migrate")) e))
only_migrate P own (Split lex text count depth) e = absurd (not_both (ap (is_named (codes "migrate")) e))
only_migrate P own (Annotate lex mark out) e = absurd (not_both (ap (is_named (codes "migrate")) e))
only_migrate P own (Reread lex file) e = absurd (not_both (ap (is_named (codes "migrate")) e))
only_migrate P own (Migrate lex out) e = own lex out

-- the command has the first word as its name
named : (words : List (List ℕ)) (name : List ℕ) (following : List (List ℕ)) (command : Command) → words ≡ name ∷ following
    → AreWordsOf command words → name_of_command command ≡ name
named words name following command e are =
    let f : name_of_command command ∷ are.following ≡ name ∷ following = sym are.are ∙ e in cc (f)

-- ---- runs of words that begin with the name of a command

module _ (words following : List (List ℕ)) (files : Files) (input : Option (List ℕ)) (outcome : Outcome) where
  segment_run : words ≡ codes "segment" ∷ following → IsOutcome words files input outcome → IsSegmentRun words files outcome
  segment_run e (OfNoCommand none is) = segment.OfOthers (λ lex scheme text are. none (Segment lex scheme text) are) is
  segment_run e (OfCommand command are is) =
      only_segment (λ c. AreWordsOf c words → IsOutcomeOf c files input outcome → IsSegmentRun words files outcome)
      (λ lex scheme text. segment.OfWords lex scheme text) command (named words (codes "segment") following command e are) are is

  of_segment_run : words ≡ codes "segment" ∷ following → IsSegmentRun words files outcome → IsOutcome words files input outcome
  of_segment_run e (segment.OfWords lex scheme text are is) = OfCommand (Segment lex scheme text) are is
  of_segment_run e (segment.OfOthers none is) =
      OfNoCommand (λ command are. only_segment (λ c. AreWordsOf c words → ⊥) none command (named words (codes "segment") following command e are) are) is

  pub segment_run_alone : words ≡ codes "segment" ∷ following → IsOutcome words files input outcome ↔ IsSegmentRun words files outcome
  segment_run_alone e = (segment_run e, of_segment_run e)

  check_run : words ≡ codes "check" ∷ following → IsOutcome words files input outcome → IsCheckRun words files outcome
  check_run e (OfNoCommand none is) = check.OfOthers (λ lex are. none (Check lex) are) is
  check_run e (OfCommand command are is) =
      only_check (λ c. AreWordsOf c words → IsOutcomeOf c files input outcome → IsCheckRun words files outcome)
      (λ lex. check.OfWords lex) command (named words (codes "check") following command e are) are is

  of_check_run : words ≡ codes "check" ∷ following → IsCheckRun words files outcome → IsOutcome words files input outcome
  of_check_run e (check.OfWords lex are is) = OfCommand (Check lex) are is
  of_check_run e (check.OfOthers none is) =
      OfNoCommand (λ command are. only_check (λ c. AreWordsOf c words → ⊥) none command (named words (codes "check") following command e are) are) is

  pub check_run_alone : words ≡ codes "check" ∷ following → IsOutcome words files input outcome ↔ IsCheckRun words files outcome
  check_run_alone e = (check_run e, of_check_run e)

  build_run : words ≡ codes "build" ∷ following → IsOutcome words files input outcome → IsBuildRun words files outcome
  build_run e (OfNoCommand none is) = build.OfOthers (λ rules tables stems out are. none (Build rules tables stems out) are) is
  build_run e (OfCommand command are is) =
      only_build (λ c. AreWordsOf c words → IsOutcomeOf c files input outcome → IsBuildRun words files outcome)
      (λ rules tables stems out. build.OfWords rules tables stems out) command (named words (codes "build") following command e are) are is

  of_build_run : words ≡ codes "build" ∷ following → IsBuildRun words files outcome → IsOutcome words files input outcome
  of_build_run e (build.OfWords rules tables stems out are is) = OfCommand (Build rules tables stems out) are is
  of_build_run e (build.OfOthers none is) =
      OfNoCommand (λ command are. only_build (λ c. AreWordsOf c words → ⊥) none command (named words (codes "build") following command e are) are) is

  pub build_run_alone : words ≡ codes "build" ∷ following → IsOutcome words files input outcome ↔ IsBuildRun words files outcome
  build_run_alone e = (build_run e, of_build_run e)

  read_run : words ≡ codes "read" ∷ following → IsOutcome words files input outcome → IsReadRun words files input outcome
  read_run e (OfNoCommand none is) = read.OfOthers (λ lex are. none (Read lex) are) is
  read_run e (OfCommand command are is) =
      only_read (λ c. AreWordsOf c words → IsOutcomeOf c files input outcome → IsReadRun words files input outcome)
      (λ lex. read.OfWords lex) command (named words (codes "read") following command e are) are is

  of_read_run : words ≡ codes "read" ∷ following → IsReadRun words files input outcome → IsOutcome words files input outcome
  of_read_run e (read.OfWords lex are is) = OfCommand (Read lex) are is
  of_read_run e (read.OfOthers none is) =
      OfNoCommand (λ command are. only_read (λ c. AreWordsOf c words → ⊥) none command (named words (codes "read") following command e are) are) is

  pub read_run_alone : words ≡ codes "read" ∷ following → IsOutcome words files input outcome ↔ IsReadRun words files input outcome
  read_run_alone e = (read_run e, of_read_run e)

  batch_run : words ≡ codes "batch" ∷ following → IsOutcome words files input outcome → IsBatchRun words files outcome
  batch_run e (OfNoCommand none is) = batch.OfOthers (λ lex scheme file count are. none (Batch lex scheme file count) are) is
  batch_run e (OfCommand command are is) =
      only_batch (λ c. AreWordsOf c words → IsOutcomeOf c files input outcome → IsBatchRun words files outcome)
      (λ lex scheme file count. batch.OfWords lex scheme file count) command (named words (codes "batch") following command e are) are is

  of_batch_run : words ≡ codes "batch" ∷ following → IsBatchRun words files outcome → IsOutcome words files input outcome
  of_batch_run e (batch.OfWords lex scheme file count are is) = OfCommand (Batch lex scheme file count) are is
  of_batch_run e (batch.OfOthers none is) =
      OfNoCommand (λ command are. only_batch (λ c. AreWordsOf c words → ⊥) none command (named words (codes "batch") following command e are) are) is

  pub batch_run_alone : words ≡ codes "batch" ∷ following → IsOutcome words files input outcome ↔ IsBatchRun words files outcome
  batch_run_alone e = (batch_run e, of_batch_run e)

  demo_run : words ≡ codes "demo" ∷ following → IsOutcome words files input outcome → IsDemoRun words files outcome
  demo_run e (OfNoCommand none is) = demo.OfOthers (λ number are. none (Demo number) are) is
  demo_run e (OfCommand command are is) =
      only_demo (λ c. AreWordsOf c words → IsOutcomeOf c files input outcome → IsDemoRun words files outcome)
      (λ number. demo.OfWords number) command (named words (codes "demo") following command e are) are is

  of_demo_run : words ≡ codes "demo" ∷ following → IsDemoRun words files outcome → IsOutcome words files input outcome
  of_demo_run e (demo.OfWords number are is) = OfCommand (Demo number) are is
  of_demo_run e (demo.OfOthers none is) =
      OfNoCommand (λ command are. only_demo (λ c. AreWordsOf c words → ⊥) none command (named words (codes "demo") following command e are) are) is

  pub demo_run_alone : words ≡ codes "demo" ∷ following → IsOutcome words files input outcome ↔ IsDemoRun words files outcome
  demo_run_alone e = (demo_run e, of_demo_run e)

  convert_run : words ≡ codes "convert" ∷ following → IsOutcome words files input outcome → IsConvertRun words files outcome
  convert_run e (OfNoCommand none is) = convert.OfOthers (λ from to file out are. none (Convert from to file out) are) is
  convert_run e (OfCommand command are is) =
      only_convert (λ c. AreWordsOf c words → IsOutcomeOf c files input outcome → IsConvertRun words files outcome)
      (λ from to file out. convert.OfWords from to file out) command (named words (codes "convert") following command e are) are is

  of_convert_run : words ≡ codes "convert" ∷ following → IsConvertRun words files outcome → IsOutcome words files input outcome
  of_convert_run e (convert.OfWords from to file out are is) = OfCommand (Convert from to file out) are is
  of_convert_run e (convert.OfOthers none is) =
      OfNoCommand (λ command are. only_convert (λ c. AreWordsOf c words → ⊥) none command (named words (codes "convert") following command e are) are) is

  pub convert_run_alone : words ≡ codes "convert" ∷ following → IsOutcome words files input outcome ↔ IsConvertRun words files outcome
  convert_run_alone e = (convert_run e, of_convert_run e)

  join_run : words ≡ codes "join" ∷ following → IsOutcome words files input outcome → IsJoinRun words files outcome
  join_run e (OfNoCommand none is) = join.OfOthers (λ lex chain are. none (Join lex chain) are) is
  join_run e (OfCommand command are is) =
      only_join (λ c. AreWordsOf c words → IsOutcomeOf c files input outcome → IsJoinRun words files outcome)
      (λ lex chain. join.OfWords lex chain) command (named words (codes "join") following command e are) are is

  of_join_run : words ≡ codes "join" ∷ following → IsJoinRun words files outcome → IsOutcome words files input outcome
  of_join_run e (join.OfWords lex chain are is) = OfCommand (Join lex chain) are is
  of_join_run e (join.OfOthers none is) =
      OfNoCommand (λ command are. only_join (λ c. AreWordsOf c words → ⊥) none command (named words (codes "join") following command e are) are) is

  pub join_run_alone : words ≡ codes "join" ∷ following → IsOutcome words files input outcome ↔ IsJoinRun words files outcome
  join_run_alone e = (join_run e, of_join_run e)

  split_run : words ≡ codes "split" ∷ following → IsOutcome words files input outcome → IsSplitRun words files outcome
  split_run e (OfNoCommand none is) = split.OfOthers (λ lex text count depth are. none (Split lex text count depth) are) is
  split_run e (OfCommand command are is) =
      only_split (λ c. AreWordsOf c words → IsOutcomeOf c files input outcome → IsSplitRun words files outcome)
      (λ lex text count depth. split.OfWords lex text count depth) command (named words (codes "split") following command e are) are is

  of_split_run : words ≡ codes "split" ∷ following → IsSplitRun words files outcome → IsOutcome words files input outcome
  of_split_run e (split.OfWords lex text count depth are is) = OfCommand (Split lex text count depth) are is
  of_split_run e (split.OfOthers none is) =
      OfNoCommand (λ command are. only_split (λ c. AreWordsOf c words → ⊥) none command (named words (codes "split") following command e are) are) is

  pub split_run_alone : words ≡ codes "split" ∷ following → IsOutcome words files input outcome ↔ IsSplitRun words files outcome
  split_run_alone e = (split_run e, of_split_run e)

  annotate_run : words ≡ codes "annotate" ∷ following → IsOutcome words files input outcome → IsAnnotateRun words files outcome
  annotate_run e (OfNoCommand none is) = annotate.OfOthers (λ lex mark out are. none (Annotate lex mark out) are) is
  annotate_run e (OfCommand command are is) =
      only_annotate (λ c. AreWordsOf c words → IsOutcomeOf c files input outcome → IsAnnotateRun words files outcome)
      (λ lex mark out. annotate.OfWords lex mark out) command (named words (codes "annotate") following command e are) are is

  of_annotate_run : words ≡ codes "annotate" ∷ following → IsAnnotateRun words files outcome → IsOutcome words files input outcome
  of_annotate_run e (annotate.OfWords lex mark out are is) = OfCommand (Annotate lex mark out) are is
  of_annotate_run e (annotate.OfOthers none is) =
      OfNoCommand (λ command are. only_annotate (λ c. AreWordsOf c words → ⊥) none command (named words (codes "annotate") following command e are) are) is

  pub annotate_run_alone : words ≡ codes "annotate" ∷ following → IsOutcome words files input outcome ↔ IsAnnotateRun words files outcome
  annotate_run_alone e = (annotate_run e, of_annotate_run e)

  reread_run : words ≡ codes "reread" ∷ following → IsOutcome words files input outcome → IsRereadRun words files outcome
  reread_run e (OfNoCommand none is) = reread.OfOthers (λ lex file are. none (Reread lex file) are) is
  reread_run e (OfCommand command are is) =
      only_reread (λ c. AreWordsOf c words → IsOutcomeOf c files input outcome → IsRereadRun words files outcome)
      (λ lex file. reread.OfWords lex file) command (named words (codes "reread") following command e are) are is

  of_reread_run : words ≡ codes "reread" ∷ following → IsRereadRun words files outcome → IsOutcome words files input outcome
  of_reread_run e (reread.OfWords lex file are is) = OfCommand (Reread lex file) are is
  of_reread_run e (reread.OfOthers none is) =
      OfNoCommand (λ command are. only_reread (λ c. AreWordsOf c words → ⊥) none command (named words (codes "reread") following command e are) are) is

  pub reread_run_alone : words ≡ codes "reread" ∷ following → IsOutcome words files input outcome ↔ IsRereadRun words files outcome
  reread_run_alone e = (reread_run e, of_reread_run e)

  migrate_run : words ≡ codes "migrate" ∷ following → IsOutcome words files input outcome → IsMigrateRun words files outcome
  migrate_run e (OfNoCommand none is) = migrate.OfOthers (λ lex out are. none (Migrate lex out) are) is
  migrate_run e (OfCommand command are is) =
      only_migrate (λ c. AreWordsOf c words → IsOutcomeOf c files input outcome → IsMigrateRun words files outcome)
      (λ lex out. migrate.OfWords lex out) command (named words (codes "migrate") following command e are) are is

  of_migrate_run : words ≡ codes "migrate" ∷ following → IsMigrateRun words files outcome → IsOutcome words files input outcome
  of_migrate_run e (migrate.OfWords lex out are is) = OfCommand (Migrate lex out) are is
  of_migrate_run e (migrate.OfOthers none is) =
      OfNoCommand (λ command are. only_migrate (λ c. AreWordsOf c words → ⊥) none command (named words (codes "migrate") following command e are) are) is

  pub migrate_run_alone : words ≡ codes "migrate" ∷ following → IsOutcome words files input outcome ↔ IsMigrateRun words files outcome
  migrate_run_alone e = (migrate_run e, of_migrate_run e)
