-- All the output of an outcome is one that a run may have come to write; and what it may have come to write begins the output of
-- each of its outcomes, since first replies begin all replies.
use Rattle.std.proofs.Common.{◌≡◌, ℕ, List, [], ◌++◌, Option, Some, refl, sym, ◌∙◌, ap, subst, append-nil}
use Rattle.outside.specs.Files.{Files}
use Rattle.text_definitions.specs.Schemes.{Scheme}
use Rattle.lexicon_definitions.specs.Lexicons.{Lexicon}
use Rattle.lexicon_text_definitions.specs.FileLines as file
use Rattle.trie_text_definitions.specs.VersionFaults.{FileResult}
use Rattle.trie_text_definitions.specs.VersionReadings.{IsReadAs}
use Rattle.session_definitions.specs.SessionLines.{lines_of_input}
use Rattle.session_definitions.specs.States.{opening}
use Rattle.session_definitions.specs.Sessions.{AreReplies}
use Rattle.session_definitions.proofs.FrontReplies.{begun}
use Rattle.run_definitions.specs.Commands.{Command, Segment, Check, Build, Read, Batch, Demo, Convert, Join, Split, Annotate, Reread, Migrate, FileWord}
use Rattle.run_definitions.specs.Ends.{Outcome}
use Rattle.run_definitions.specs.LexiconTells.{FileTells, NotThere, Refused, Holds}
use Rattle.run_definitions.specs.ReadOutcomes.{IsSessionOutcome, IsReadOutcomeWith, IsReadOutcome, AreFirstReplies, IsReadSoFarWith, IsReadSoFar}
use Rattle.run_definitions.specs.Outcomes.{IsOutcome, IsOutcomeOf, OfNoCommand, OfCommand, IsOutputOf, IsSoFarOf, IsSoFar, OfNone, OfOne}
use Rattle.run_definitions.proofs.OneCommand.{one_command}
use Rattle.run_definitions.specs.BatchOutcomes.{IsBatchOutcomeWith, IsBatchOutcome, IsBatchSoFarWith, IsBatchSoFar}
use Rattle.run_definitions.proofs.BatchSoFar.{Begins, same_begins, all_text, text_begins}
use Rattle.run_definitions.proofs.OneOutcome.{one_telling, one_outcome_of}

-- ---- all of the output

all_replies : (lexicon : Lexicon) (input : Option (List ℕ)) (files : Files) (outcome : Outcome) → IsSessionOutcome lexicon input files outcome
    → AreFirstReplies lexicon input outcome.output
all_replies lexicon input files outcome p = record {
  told = p.told;
  is_told = p.is_told;
  lines = lines_of_input p.told;
  others = [];
  first = sym (append-nil (lines_of_input p.told));
  after = p.session.after;
  replies = subst (λ (o : Outcome). AreReplies lexicon opening (lines_of_input p.told) o.output p.session.after) (sym p.is) p.session.replies;
}

all_read_with : (tells : FileTells) (lex : FileWord) (files : Files) (input : Option (List ℕ)) (outcome : Outcome)
    → IsReadOutcomeWith tells lex files input outcome → IsReadSoFarWith tells lex input outcome.output
all_read_with NotThere lex files input outcome p = ap (λ (o : Outcome). o.output) p
all_read_with (Refused fault) lex files input outcome p = ap (λ (o : Outcome). o.output) p
all_read_with (Holds lexicon) lex files input outcome p = all_replies lexicon input files outcome p

all_batch_with : (tells : FileTells) (lex : FileWord) (scheme : Scheme) (file : FileWord) (count : ℕ) (files : Files) (outcome : Outcome)
    → IsBatchOutcomeWith tells lex scheme file count files outcome → IsBatchSoFarWith tells lex scheme file count files outcome.output
all_batch_with NotThere lex scheme file count files outcome p = ap (λ (o : Outcome). o.output) p
all_batch_with (Refused fault) lex scheme file count files outcome p = ap (λ (o : Outcome). o.output) p
all_batch_with (Holds lexicon) lex scheme file count files outcome p = all_text lexicon scheme file count files outcome p

-- the output of an outcome of a command is one that it may have come to write
pub all_is_so_far : (command : Command) (files : Files) (input : Option (List ℕ)) (outcome : Outcome) → IsOutcomeOf command files input outcome
    → IsSoFarOf command files input outcome.output
all_is_so_far (Segment lex scheme text) files input outcome p = (outcome, p, refl)
all_is_so_far (Check lex) files input outcome p = (outcome, p, refl)
all_is_so_far (Build rules tables stems out) files input outcome p = (outcome, p, refl)
all_is_so_far (Read lex) files input outcome p =
    record { tells = p.tells; does_tell = p.does_tell; is_output = all_read_with p.tells lex files input outcome p.is_outcome }
all_is_so_far (Batch lex scheme file count) files input outcome p = record {
  tells = p.tells;
  does_tell = p.does_tell;
  is_output = all_batch_with p.tells lex scheme file count files outcome p.is_outcome;
}
all_is_so_far (Demo number) files input outcome p = (outcome, p, refl)
all_is_so_far (Convert from to file out) files input outcome p = (outcome, p, refl)
all_is_so_far (Join lex chain) files input outcome p = (outcome, p, refl)
all_is_so_far (Split lex text count depth) files input outcome p = (outcome, p, refl)
all_is_so_far (Annotate lex mark out) files input outcome p = (outcome, p, refl)
all_is_so_far (Reread lex file) files input outcome p = (outcome, p, refl)
all_is_so_far (Migrate lex out) files input outcome p = (outcome, p, refl)

-- ---- a beginning of it

first_replies_begin : (lexicon : Lexicon) (input : Option (List ℕ)) (files : Files) (output : List ℕ) (outcome : Outcome)
    → AreFirstReplies lexicon input output → IsSessionOutcome lexicon input files outcome → Begins output outcome.output
first_replies_begin lexicon input files output outcome p q =
    let told : Some q.told ≡ Some p.told = sym q.is_told ∙ p.is_told in
    let same_told : q.told ≡ p.told = cc (told) in
    let same_lines : lines_of_input q.told ≡ p.lines ++ p.others = ap lines_of_input same_told ∙ p.first in
    let whole : AreReplies lexicon opening (p.lines ++ p.others) q.output q.session.after =
    subst (λ (l : List file.Line). AreReplies lexicon opening l q.output q.session.after) same_lines q.session.replies in
    let begin = begun lexicon p.lines p.others opening output q.output p.after q.session.after p.replies whole in
    (begin.0, ap (λ (o : Outcome). o.output) q.is ∙ begin.1)

read_begins_with : (tells : FileTells) (lex : FileWord) (files : Files) (input : Option (List ℕ)) (output : List ℕ) (outcome : Outcome)
    → IsReadSoFarWith tells lex input output → IsReadOutcomeWith tells lex files input outcome → Begins output outcome.output
read_begins_with NotThere lex files input output outcome p q =
    same_begins output outcome.output (p ∙ sym (ap (λ (o : Outcome). o.output) q))
read_begins_with (Refused fault) lex files input output outcome p q =
    same_begins output outcome.output (p ∙ sym (ap (λ (o : Outcome). o.output) q))
read_begins_with (Holds lexicon) lex files input output outcome p q = first_replies_begin lexicon input files output outcome p q

batch_begins_with : (tells : FileTells) (lex : FileWord) (scheme : Scheme) (file : FileWord) (count : ℕ) (files : Files) (output : List ℕ)
    (outcome : Outcome) → IsBatchSoFarWith tells lex scheme file count files output
    → IsBatchOutcomeWith tells lex scheme file count files outcome → Begins output outcome.output
batch_begins_with NotThere lex scheme file count files output outcome p q =
    same_begins output outcome.output (p ∙ sym (ap (λ (o : Outcome). o.output) q))
batch_begins_with (Refused fault) lex scheme file count files output outcome p q =
    same_begins output outcome.output (p ∙ sym (ap (λ (o : Outcome). o.output) q))
batch_begins_with (Holds lexicon) lex scheme file count files output outcome p q =
    text_begins lexicon scheme file count files output outcome p q

-- where bytes are read in one way
module _ (one : (bytes : List ℕ) (left right : FileResult) → IsReadAs bytes left → IsReadAs bytes right → left ≡ right) where
  read_begins : (lex : FileWord) (files : Files) (input : Option (List ℕ)) (output : List ℕ) (outcome : Outcome)
      → IsReadSoFar lex files input output → IsReadOutcome lex files input outcome → Begins output outcome.output
  read_begins lex files input output outcome p q =
      let same = one_telling one files lex.name p.tells q.tells p.does_tell q.does_tell in
      read_begins_with q.tells lex files input output outcome (subst (λ (t : FileTells). IsReadSoFarWith t lex input output) same p.is_output) q.is_outcome

  batch_begins : (lex : FileWord) (scheme : Scheme) (file : FileWord) (count : ℕ) (files : Files) (output : List ℕ) (outcome : Outcome)
      → IsBatchSoFar lex scheme file count files output → IsBatchOutcome lex scheme file count files outcome → Begins output outcome.output
  batch_begins lex scheme file count files output outcome p q =
      let same = one_telling one files lex.name p.tells q.tells p.does_tell q.does_tell in
      batch_begins_with q.tells lex scheme file count files output outcome
      (subst (λ (t : FileTells). IsBatchSoFarWith t lex scheme file count files output) same p.is_output) q.is_outcome

  output_begins : (command : Command) (files : Files) (input : Option (List ℕ)) (output : List ℕ) (outcome : Outcome)
      → IsOutputOf command files input output → IsOutcomeOf command files input outcome → Begins output outcome.output
  output_begins command files input output outcome (other, p, e) q =
      same_begins output outcome.output (e ∙ ap (λ (o : Outcome). o.output) (one_outcome_of one command files input other outcome p q))

  begins_of : (command : Command) (files : Files) (input : Option (List ℕ)) (output : List ℕ) (outcome : Outcome)
      → IsSoFarOf command files input output → IsOutcomeOf command files input outcome → Begins output outcome.output
  begins_of (Segment lex scheme text) files input output outcome p q = output_begins (Segment lex scheme text) files input output outcome p q
  begins_of (Check lex) files input output outcome p q = output_begins (Check lex) files input output outcome p q
  begins_of (Build rules tables stems out) files input output outcome p q = output_begins (Build rules tables stems out) files input output outcome p q
  begins_of (Read lex) files input output outcome p q = read_begins lex files input output outcome p q
  begins_of (Batch lex scheme file count) files input output outcome p q = batch_begins lex scheme file count files output outcome p q
  begins_of (Demo number) files input output outcome p q = output_begins (Demo number) files input output outcome p q
  begins_of (Convert from to file out) files input output outcome p q = output_begins (Convert from to file out) files input output outcome p q
  begins_of (Join lex chain) files input output outcome p q = output_begins (Join lex chain) files input output outcome p q
  begins_of (Split lex text count depth) files input output outcome p q = output_begins (Split lex text count depth) files input output outcome p q
  begins_of (Annotate lex mark out) files input output outcome p q = output_begins (Annotate lex mark out) files input output outcome p q
  begins_of (Reread lex file) files input output outcome p q = output_begins (Reread lex file) files input output outcome p q
  begins_of (Migrate lex out) files input output outcome p q = output_begins (Migrate lex out) files input output outcome p q

  -- what a run may have come to write begins the output of its outcome
  pub so_far_begins : (words : List (List ℕ)) (files : Files) (input : Option (List ℕ)) (output : List ℕ) (outcome : Outcome)
      → IsSoFar words files input output → IsOutcome words files input outcome → Begins output outcome.output
  so_far_begins words files input output outcome (OfNone none p) (OfNoCommand other q) =
      same_begins output outcome.output (p ∙ sym (ap (λ (o : Outcome). o.output) q))
  so_far_begins words files input output outcome (OfNone none p) (OfCommand command are q) = absurd (none command are)
  so_far_begins words files input output outcome (OfOne command are p) (OfNoCommand none q) = absurd (none command are)
  so_far_begins words files input output outcome (OfOne command are p) (OfCommand other too q) =
      let same = one_command words command other are too in
      begins_of other files input output outcome (subst (λ (c : Command). IsSoFarOf c files input output) same p) q
