-- How a run of any command ended tells each clause of the run whose words are the command's: as it does for one that leaves the
-- source alone, or from the replies that `batch` wrote, or from the session that `read` served.
use Rattle.std.proofs.Common.{◌≡◌, ℕ, List, Option, None, Some, sym, ap, subst, ◌∙◌, inl, inr}
use Rattle.std.specs.Prelude.{◌⊎◌}
use Rattle.outside.specs.Counts.{Rose}
use Rattle.outside.specs.Files.{Files, told_without}
use Rattle.text_definitions.specs.Schemes.{Scheme}
use Rattle.lexicon_definitions.specs.Lexicons.{Lexicon}
use Rattle.run_definitions.specs.Commands.{Command, Read, Batch, FileWord, AreWordsOf, out_of, DoWrite, WriteNoFile, DoReadInput}
use Rattle.run_definitions.specs.Ends as ends
use Rattle.run_definitions.specs.LexiconTells.{Holds, DoesTell}
use Rattle.run_definitions.specs.ReadOutcomes.{IsToldWhereServed, IsReadOutcome}
use Rattle.run_definitions.specs.BatchOutcomes.{IsBatchOutcome}
use Rattle.run_definitions.specs.Outcomes.{Outcome, IsOutcome, OfCommand, IsSoFar, OfOne}
use Rattle.run_definitions.proofs.OneCommand.{one_command}
use Rattle.run_definitions.proofs.SoFar.{all_is_so_far}
use Rattle.commands.specs.declared.status.Status.{Status}
use Rattle.commands.specs.declared.status.Status.TheVariants.{Usage, ReadFault, WriteFault}
use Rattle.commands.specs.Headline.{WrotePrefix, IsNoFault}
use Rattle.commands.specs.RunEnds.{WroteOutcome, Devices}
use Rattle.commands.specs.Sessions.{SourceTold, RanCommand, Apart, InBatch, InSession}
use Rattle.commands.specs.ReadFaults.{ReadsFailed, LacksFile}
use Rattle.commands.specs.RepliedSoFar.{IsRepliedTo, Untouched, Taken}
use Rattle.commands.proofs.Runs.{ran_outcome, ran_missing, ran_prefix, ran_usage, ran_read_fault, ran_write_fault, ran_files, ran_failed_writes, ran_other_files, ran_done_files, ran_read_fault_files, ran_read_fault_written, ran_write_fault_files}
use Rattle.commands.proofs.RunOutcomes.{run_ran, written_by, writes_nothing, one_run_outcome}
use Rattle.commands.proofs.BatchRuns.{batch_outcome, batch_prefix, batch_usage}
use Rattle.commands.proofs.SessionRuns.{serves_outcome, serves_prefix, serves_usage, serves_read_fault, serves_write_fault}

-- what was written of an outcome of one kind was of one of another
wrote_all_of : (P Q : Outcome → Type 0) → ((outcome : Outcome) → P outcome → Q outcome) → (after : Option Files) (old : List ℕ)
    → (written : Option (List ℕ)) (status : Status) → WroteOutcome P after old written status → WroteOutcome Q after old written status
wrote_all_of P Q embeds after old written status w =
    record { outcome = w.outcome; is_it = embeds w.outcome w.is_it; output = w.output; files = w.files; told = w.told }

module _ (words : List (List ℕ)) (command : Command) (are : AreWordsOf command words) (Stays : Type 0) (result : Status) (old new : Devices)
    (source source_now : SourceTold) where
  -- the words are those of `read`, where the command is
  are_of_read : (lex : FileWord) → command ≡ Read lex → AreWordsOf (Read lex) words
  are_of_read lex e = subst (λ (c : Command). AreWordsOf c words) e are

  does_read : (lex : FileWord) → command ≡ Read lex → DoReadInput words
  does_read lex e = (Read lex, are_of_read lex e, tt)

  -- words of `read` name one file
  same_file : (lex other : FileWord) → command ≡ Read lex → AreWordsOf (Read other) words → lex ≡ other
  same_file lex other e too =
      let d : Read lex ≡ Read other = sym e ∙ one_command words command (Read other) are too in cc (d)

  -- words of `batch` write no file and are not those of `read`
  are_of_batch : (lex : FileWord) (scheme : Scheme) (file : FileWord) (count : ℕ) → command ≡ Batch lex scheme file count
      → AreWordsOf (Batch lex scheme file count) words
  are_of_batch lex scheme file count e = subst (λ (c : Command). AreWordsOf c words) e are

  batch_writes_none : (lex : FileWord) (scheme : Scheme) (file : FileWord) (count : ℕ) → command ≡ Batch lex scheme file count → (out : FileWord)
      → DoWrite words out → ⊥
  batch_writes_none lex scheme file count e out writes =
      let d : None ≡ Some out = sym (ap out_of e) ∙ written_by words command are out writes in cc (d)

  pub command_outcome : RanCommand command Stays result old new source source_now → IsNoFault result → (files : Files) (told : List ℕ)
      → old.files ≡ Some files → old.written ≡ Some told → IsToldWhereServed words files source.left
      → WroteOutcome (IsOutcome words files source.left) new.files told new.written result
  command_outcome (Apart stays ran) own files told f o is_told =
      ran_outcome _ _ _ _ _ _ (run_ran words command are source.left result old new ran) own files told f o
  command_outcome (InSession lex e s) own files told f o is_told =
      let (input, l) = is_told lex s.lexicon (are_of_read lex e) (s.holds files f) in
      wrote_all_of (IsReadOutcome lex files source.left) (IsOutcome words files source.left)
      (λ outcome is. OfCommand (Read lex) (are_of_read lex e) is) new.files told new.written result
      (serves_outcome lex result old new source source_now s own files told input f o l)
  command_outcome (InBatch lex scheme file count e stays r) own files told f o is_told =
      wrote_all_of (IsBatchOutcome lex scheme file count files) (IsOutcome words files source.left)
      (λ outcome is. OfCommand (Batch lex scheme file count) (are_of_batch lex scheme file count e) is) new.files told new.written result
      (batch_outcome lex scheme file count result old new r own files told f o)

  pub command_missing : RanCommand command Stays result old new source source_now → result ≡ ReadFault → (files : Files) (told : List ℕ)
      → old.files ≡ Some files → old.written ≡ Some told
      → ReadsFailed words old.failed_reads new.failed_reads source.faults source_now.faults
      ⊎ WroteOutcome (IsOutcome words files source.left) new.files told new.written result
  command_missing (Apart stays ran) r files told f o =
      elim (ran_missing _ _ _ _ _ _ (run_ran words command are source.left result old new ran) r files told f o) [
        | inl rose ↦ inl (inl rose)
        | inr all ↦ inr all
      ]
  command_missing (InSession lex e s) r files told f o =
      inl (inr (does_read lex e, s.served.read_fault (serves_read_fault lex result old new source source_now s r)))
  command_missing (InBatch lex scheme file count e stays b) r files told f o = absurd (b.on_text.replied.read_fault r)

  pub command_prefix : RanCommand command Stays result old new source source_now → (files : Files) → old.files ≡ Some files
      → IsToldWhereServed words files source.left → WrotePrefix (IsSoFar words files source.left) old.written new.written
  command_prefix (Apart stays ran) files f is_told = elim (ran_prefix _ _ _ _ _ _ ran files f) [
    | inl same ↦ inl same
    | inr (outcome, is, grown) ↦ inr (outcome.output, OfOne command are (all_is_so_far command files source.left outcome is), grown)
  ]
  command_prefix (InSession lex e s) files f is_told =
      let (input, l) = is_told lex s.lexicon (are_of_read lex e) (s.holds files f) in
      elim (serves_prefix lex result old new source source_now s files input f l) [
        | inl same ↦ inl same
        | inr (output, is, grown) ↦ inr (output, OfOne (Read lex) (are_of_read lex e) is, grown)
      ]
  command_prefix (InBatch lex scheme file count e stays r) files f is_told = elim (batch_prefix lex scheme file count result old new r files f) [
    | inl same ↦ inl same
    | inr (output, is, grown) ↦ inr (output, OfOne (Batch lex scheme file count) (are_of_batch lex scheme file count e) is, grown)
  ]

  pub command_replies : (Stays → source_now ≡ source) → RanCommand command Stays result old new source source_now → result ≡ ReadFault
      → (lex : FileWord) → AreWordsOf (Read lex) words → (files : Files) (input told : List ℕ) → old.files ≡ Some files
      → source.left ≡ Some input → old.written ≡ Some told → IsRepliedTo lex files input told source_now.left new.written
  command_replies keeps (Apart stays ran) r lex too files input told f l o =
      Untouched (ap (λ (s : SourceTold). s.left) (keeps stays) ∙ l) (ran_read_fault_written _ _ _ _ _ _ ran r ∙ o)
  command_replies keeps (InSession lex e s) r other too files input told f l o =
      Taken s.lexicon (subst (λ (w : FileWord). DoesTell files w.name (Holds s.lexicon)) (same_file lex other e too) (s.holds files f))
      (s.served.replies (serves_read_fault lex result old new source source_now s r) input told l o)
  command_replies keeps (InBatch lex scheme file count e stays b) r other too files input told f l o = absurd (b.on_text.replied.read_fault r)

  pub command_usage : RanCommand command Stays result old new source source_now → result ≡ Usage → ⊥
  command_usage (Apart stays ran) u = ran_usage _ _ _ _ _ _ ran u
  command_usage (InSession lex e s) u = serves_usage lex result old new source source_now s u
  command_usage (InBatch lex scheme file count e stays r) u = batch_usage lex scheme file count result old new r u

  pub command_read_fault : RanCommand command Stays result old new source source_now → result ≡ ReadFault
      → ReadsFailed words old.failed_reads new.failed_reads source.faults source_now.faults ⊎ LacksFile words old.files
  command_read_fault (Apart stays ran) r = elim (ran_read_fault _ _ _ _ _ _ ran r) [
    | inl rose ↦ inl (inl rose)
    | inr lacks ↦ inr (command, are, lacks)
  ]
  command_read_fault (InSession lex e s) r =
      inl (inr (does_read lex e, s.served.read_fault (serves_read_fault lex result old new source source_now s r)))
  command_read_fault (InBatch lex scheme file count e stays b) r = absurd (b.on_text.replied.read_fault r)

  pub command_write_fault : RanCommand command Stays result old new source source_now → result ≡ WriteFault
      → Rose old.faults new.faults ⊎ ((out : FileWord) × DoWrite words out × Rose old.failed_writes new.failed_writes)
  command_write_fault (Apart stays ran) w = elim (ran_write_fault _ _ _ _ _ _ ran w) [
    | inl rose ↦ inl rose
    | inr (out, e, rose) ↦ inr (out, (command, are, e), rose)
  ]
  command_write_fault (InSession lex e s) w = inl (serves_write_fault lex result old new source source_now s w)
  command_write_fault (InBatch lex scheme file count e stays b) w = inl (b.on_text.replied.write_fault w)

  pub command_files : RanCommand command Stays result old new source source_now → WriteNoFile words → new.files ≡ old.files
  command_files (Apart stays ran) none = ran_files _ _ _ _ _ _ ran (writes_nothing words command are none)
  command_files (InSession lex e s) none = s.files
  command_files (InBatch lex scheme file count e stays b) none = b.on_text.files

  pub command_failed_writes : RanCommand command Stays result old new source source_now → WriteNoFile words → new.failed_writes ≡ old.failed_writes
  command_failed_writes (Apart stays ran) none = ran_failed_writes _ _ _ _ _ _ ran (writes_nothing words command are none)
  command_failed_writes (InSession lex e s) none = s.failed_writes
  command_failed_writes (InBatch lex scheme file count e stays b) none = b.on_text.failed_writes

  pub command_other_files : RanCommand command Stays result old new source source_now → (out : FileWord) → DoWrite words out
      → told_without new.files out.name ≡ told_without old.files out.name
  command_other_files (Apart stays ran) out writes = ran_other_files _ _ _ _ _ _ ran out (written_by words command are out writes)
  command_other_files (InSession lex e s) out writes = ap (λ x. told_without x out.name) s.files
  command_other_files (InBatch lex scheme file count e stays b) out writes = ap (λ x. told_without x out.name) b.on_text.files

  pub command_done_files : RanCommand command Stays result old new source source_now → (files : Files) (outcome : Outcome) → old.files ≡ Some files
      → IsOutcome words files source.left outcome → (outcome.end ≡ ends.Done → ⊥) → new.files ≡ old.files
  command_done_files (Apart stays ran) files outcome f is not =
      ran_done_files _ _ _ _ _ _ (one_run_outcome words source.left) (run_ran words command are source.left result old new ran) files outcome f is not
  command_done_files (InSession lex e s) files outcome f is not = s.files
  command_done_files (InBatch lex scheme file count e stays b) files outcome f is not = b.on_text.files

  pub command_read_fault_files : RanCommand command Stays result old new source source_now → result ≡ ReadFault → new.files ≡ old.files
  command_read_fault_files (Apart stays ran) r = ran_read_fault_files _ _ _ _ _ _ ran r
  command_read_fault_files (InSession lex e s) r = s.files
  command_read_fault_files (InBatch lex scheme file count e stays b) r = b.on_text.files

  -- a command that does not read the input has written nothing where a file was not read
  pub command_read_fault_output : RanCommand command Stays result old new source source_now → result ≡ ReadFault → (DoReadInput words → ⊥)
      → new.written ≡ old.written
  command_read_fault_output (Apart stays ran) r not = ran_read_fault_written _ _ _ _ _ _ ran r
  command_read_fault_output (InSession lex e s) r not = absurd (not (does_read lex e))
  command_read_fault_output (InBatch lex scheme file count e stays b) r not = absurd (b.on_text.replied.read_fault r)

  pub command_write_fault_files : RanCommand command Stays result old new source source_now → result ≡ WriteFault → (out : FileWord) → DoWrite words out
      → (files : Files) → old.files ≡ Some files
      → (Rose old.failed_writes new.failed_writes × (new.written ≡ old.written))
      ⊎ ((outcome : Outcome) × IsOutcome words files source.left outcome × (new.files ≡ Some outcome.files))
  command_write_fault_files (Apart stays ran) w out writes files f =
      ran_write_fault_files _ _ _ _ _ _ (run_ran words command are source.left result old new ran) w files f
  command_write_fault_files (InSession lex e s) w out writes files f =
      let d : None ≡ Some out = sym (ap out_of e) ∙ written_by words command are out writes in absurd (cc (d))
  command_write_fault_files (InBatch lex scheme file count e stays b) w out writes files f = absurd (batch_writes_none lex scheme file count e out writes)

  pub command_input : RanCommand command Stays result old new source source_now → (DoReadInput words → ⊥) → Stays
  command_input (Apart stays ran) not = stays
  command_input (InSession lex e s) not = absurd (not (does_read lex e))
  command_input (InBatch lex scheme file count e stays b) not = stays

  pub command_unread_input : RanCommand command Stays result old new source source_now → (lex : FileWord) → AreWordsOf (Read lex) words
      → (files : Files) → old.files ≡ Some files → Stays ⊎ ((lexicon : Lexicon) × DoesTell files lex.name (Holds lexicon))
  command_unread_input (Apart stays ran) lex too files f = inl stays
  command_unread_input (InSession lex e s) other too files f =
      inr (s.lexicon, subst (λ (w : FileWord). DoesTell files w.name (Holds s.lexicon)) (same_file lex other e too) (s.holds files f))
  command_unread_input (InBatch lex scheme file count e stays b) other too files f = inl stays
