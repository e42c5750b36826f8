-- What comes of opening a lexicon file: the file as it was read is the told one, and so is its refusal; and a run that goes on over the lexicon,
-- or ends without one, ended as its command says.
use Rattle.std.proofs.Common.{◌≡◌, ℕ, ◌+◌, List, [], ◌∷◌, take, Option, Some, None, Ok, Err, refl, sym, ap, subst, ◌∙◌}
use Rattle.outside.specs.Files.{Files, contents_of, AreFirstBytes}
use Rattle.lexicon_definitions.specs.Lexicons.{Lexicon}
use Rattle.lexicon_text_definitions.specs.declared.limits.TheConstants.{MOST_FILE_BYTES}
use Rattle.trie_text_definitions.specs.VersionReadings.{IsReadAs}
use Rattle.form_file.specs.declared.contents.Contents.{Contents}
use Rattle.form_file.specs.Contents.{lexicon_of}
use Rattle.lexicon_file.specs.Contents.{fault_of}
use Rattle.annotated_trie.specs.Searched.{SearchedLexicon}
use Rattle.run_definitions.specs.Commands.{FileWord}
use Rattle.run_definitions.specs.Ends as ends
use Rattle.run_definitions.specs.Ends.{Outcome, outcome_over}
use Rattle.run_definitions.specs.Refusals.{file_refusal}
use Rattle.run_definitions.specs.LexiconTells.{DoesTell, Refused, Holds, IsMissing, IsLarge, IsFaulty, IsLexicon}
use Rattle.commands.specs.declared.status.Status.{Status}
use Rattle.commands.specs.declared.status.Status.TheVariants.{Usage, BadFile}
use Rattle.commands.specs.declared.status.AnyFault.{AnyFault}
use Rattle.commands.specs.declared.status.AnyFault.TheVariants.{Large, Lexicon as OfLexicon, Rules, Tables, Stems, Spelling, Note}
use Rattle.commands.specs.Faults.{file_fault}
use Rattle.commands.specs.Ends.{Wrote}
use Rattle.commands.specs.RunEnds.{Devices, HasOutcome, Ran}
use Rattle.commands.specs.LexiconFiles.{IsLexiconFile, IsRefusedFile}
use Rattle.commands.specs.Openings.{HasOpened, IsUnopened, Missing, Faulty}
use Rattle.commands.proofs.FilesRead.{first_content, whole, within, longer}
use Rattle.commands.proofs.Runs.{printed}

-- ---- the file, as read

-- what a refused file tells
refused_file : (files : Files) (name content bytes : List ℕ) (fault : AnyFault) → contents_of files name ≡ Some content
    → take (MOST_FILE_BYTES + 1) content ≡ bytes → IsRefusedFile bytes fault → DoesTell files name (Refused (file_fault fault))
refused_file files name content bytes Large there e high = IsLarge content there (longer content bytes e high) refl
refused_file files name content bytes (OfLexicon fault) there e why =
    let low = within content bytes e why.0 in
    let same = whole content bytes e low in
    IsFaulty content there low (fault_of fault) (subst (λ b. IsReadAs b (Err (fault_of fault))) (sym same) why.1) refl
refused_file files name content bytes (Rules fault) there e why = absurd why
refused_file files name content bytes (Tables fault) there e why = absurd why
refused_file files name content bytes (Stems fault) there e why = absurd why
refused_file files name content bytes (Spelling fault) there e why = absurd why
refused_file files name content bytes (Note reason) there e why = absurd why

module _ (lex : FileWord) (bytes : List ℕ) (files : Option Files) (first : AreFirstBytes files lex.name (MOST_FILE_BYTES + 1) bytes) where
  -- a lexicon file that was read is the told one
  pub told_lexicon : (lexicon : Lexicon) → IsLexiconFile bytes lexicon → (told : Files) → files ≡ Some told → DoesTell told lex.name (Holds lexicon)
  told_lexicon lexicon is told f =
      let (content, there, e) = first_content told lex.name (MOST_FILE_BYTES + 1) bytes
      (subst (λ (x : Option Files). AreFirstBytes x lex.name (MOST_FILE_BYTES + 1) bytes) f first) in
      let low = within content bytes e is.within in
      let same = whole content bytes e low in
      IsLexicon content there low lexicon (subst (λ b. IsReadAs b (Ok lexicon)) (sym same) is.read) refl

  -- the refusal of the file is the output of an outcome without a lexicon
  pub told_fault : (fault : AnyFault) → IsRefusedFile bytes fault → (told : Files) → files ≡ Some told
      → HasOutcome (IsUnopened lex told) (BadFile lex.place fault) (file_refusal lex.name (file_fault fault)) told
  told_fault fault why told f =
      let (content, there, e) = first_content told lex.name (MOST_FILE_BYTES + 1) bytes
      (subst (λ (x : Option Files). AreFirstBytes x lex.name (MOST_FILE_BYTES + 1) bytes) f first) in record {
        end = ends.BadFile lex.place (file_fault fault);
        told = refl;
        is_it = Faulty (file_fault fault) (refused_file told lex.name content bytes fault there e why) refl;
      }

-- a missing file has its outcome
pub unopened_missing : (lex : FileWord) (told : Files) → contents_of told lex.name ≡ None → IsUnopened lex told (outcome_over told [] ends.ReadFault)
unopened_missing lex told missing = Missing (IsMissing missing refl) refl

-- ---- over the lexicon

-- what a box lends is what was opened
pub lexicon_lent : (lex : FileWord) (boxed lent : SearchedLexicon) (old mid : Devices) → lent ≡ boxed → HasOpened lex boxed.lexicon old mid
    → HasOpened lex lent.lexicon old mid
lexicon_lent lex boxed lent old mid same opened = subst (λ (l : SearchedLexicon). HasOpened lex l.lexicon old mid) (sym same) opened

pub contents_lent : (lex : FileWord) (boxed lent : Contents) (old mid : Devices) → lent ≡ boxed → HasOpened lex (lexicon_of boxed) old mid
    → HasOpened lex (lexicon_of lent) old mid
contents_lent lex boxed lent old mid same opened = subst (λ (c : Contents). HasOpened lex (lexicon_of c) old mid) (sym same) opened

module _ (lex : FileWord) (lexicon : Lexicon) (old mid : Devices) (opened : HasOpened lex lexicon old mid) where
  -- what the file tells is known also where the run goes on
  pub holds_on : (told : Files) → mid.files ≡ Some told → DoesTell told lex.name (Holds lexicon)
  holds_on told e = opened.holds told (sym (ap (λ (d : Devices). d.files) opened.same) ∙ e)

  -- what may be written over the lexicon was written, and it is the output of an outcome
  pub printed_over : (IsIt : Files → Outcome → Type 0) (May : Lexicon → Status → List ℕ → Type 0)
      → ((any : Lexicon) (status : Status) (output : List ℕ) → May any status output → status ≡ Usage → ⊥)
      → ((files : Files) (any : Lexicon) → DoesTell files lex.name (Holds any) → (status : Status) (output : List ℕ) → May any status output
      → HasOutcome (IsIt files) status output files)
      → (result : Status) (new : Devices) → new.files ≡ mid.files → new.failed_writes ≡ mid.failed_writes
      → Wrote (May lexicon) result mid.written new.written mid.faults new.faults → Ran IsIt (lex ∷ []) None result old new
  printed_over IsIt May not_usage outcome result new files failed_writes wrote =
      subst (λ (d : Devices). Ran IsIt (lex ∷ []) None result d new) opened.same
      (printed IsIt (lex ∷ []) None result mid new (May lexicon) (not_usage lexicon)
      (λ told e status output may. outcome told lexicon (holds_on told e) status output may) files failed_writes wrote)
