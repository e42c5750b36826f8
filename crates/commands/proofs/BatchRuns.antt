-- What a run of `batch` leaves, from the replies that it wrote; and what each of its stages says of the outcome.
use Rattle.std.proofs.Common.{◌≡◌, ℕ, ◌+◌, ◌<◌, ◌≤◌, List, [], length, Option, Some, None, Ok, refl, sym, ap, subst, ◌∙◌, inr, append-nil}
use Rattle.outside.specs.Files.{Files, contents_of, AreFirstBytes}
use Rattle.outside.specs.Told.{bytes_after}
use Rattle.outside.proofs.ToldLemmas.{GrowsByPrefix-all}
use Rattle.text_definitions.specs.Schemes.{Scheme}
use Rattle.lexicon_definitions.specs.Lexicons.{Lexicon}
use Rattle.lexicon_text_definitions.specs.FileLines.{lines_of_bytes}
use Rattle.batch_reader.specs.Serving.{WroteReplies, WroteFirstReplies}
use Rattle.lexicon_text_definitions.specs.declared.limits.TheConstants.{MOST_FILE_BYTES}
use Rattle.run_definitions.specs.Commands.{FileWord}
use Rattle.run_definitions.specs.Ends as ends
use Rattle.run_definitions.specs.Ends.{Outcome, outcome_over}
use Rattle.run_definitions.specs.Refusals.{file_refusal}
use Rattle.run_definitions.specs.LexiconTells as lexicons
use Rattle.run_definitions.specs.LexiconTells.{NotThere, DoesTell}
use Rattle.run_definitions.specs.SourceTells.{Missing, Refused, Holds, IsMissing, IsLarge, IsSound}
use Rattle.run_definitions.specs.BatchOutcomes.{TextTells, IsTextOutcome, IsBatchOutcome, IsBatchSoFar}
use Rattle.commands.specs.declared.status.Status.{Status}
use Rattle.commands.specs.declared.status.Status.TheVariants.{Done, Usage, BadFile}
use Rattle.commands.specs.declared.status.AnyFault.TheVariants.{Large}
use Rattle.commands.specs.Faults.{Tells, file_fault}
use Rattle.commands.specs.Headline.{WrotePrefix, IsNoFault}
use Rattle.commands.specs.RunEnds.{WroteOutcome, Devices, HasOutcome}
use Rattle.commands.specs.Openings as openings
use Rattle.commands.specs.Openings.{IsUnopened}
use Rattle.commands.specs.Batches.{RepliesToText, RepliesInBatch}
use Rattle.commands.proofs.FilesRead.{first_content, whole, within, longer}

-- ---- what the replies leave

-- all replies are those to the first lines, of which no other is left
pub first_of_all : (lexicon : Lexicon) (scheme : Scheme) (count : ℕ) (text : List ℕ) (old new : Option (List ℕ))
    → WroteReplies lexicon scheme count text old new → WroteFirstReplies lexicon scheme count text old new
first_of_all lexicon scheme count text old new w = record {
  output = w.output;
  replies = record { lines = lines_of_bytes text; others = []; first = sym (append-nil (lines_of_bytes text)); replies = w.replies };
  grown = GrowsByPrefix-all old new w.output w.wrote;
}

module _ (lex : FileWord) (scheme : Scheme) (file : FileWord) (count : ℕ) (result : Status) (old new : Devices)
    (r : RepliesInBatch lex scheme file count result old new) where
  pub batch_outcome : IsNoFault result → (files : Files) (told : List ℕ) → old.files ≡ Some files → old.written ≡ Some told
      → WroteOutcome (IsBatchOutcome lex scheme file count files) new.files told new.written result
  batch_outcome own files told f o =
      let (done, wrote) = r.on_text.replied.done own in record {
        outcome = outcome_over files wrote.output ends.Done;
        is_it = record {
          tells = lexicons.Holds r.lexicon;
          does_tell = r.holds files f;
          is_outcome = record {
            tells = Holds r.on_text.text;
            do_tell = r.on_text.tells files f;
            is_outcome = record { output = wrote.output; replies = wrote.replies; is = refl };
          };
        };
        output = wrote.wrote ∙ ap (λ x. bytes_after x wrote.output) o;
        files = r.on_text.files ∙ f;
        told = subst (λ (x : Status). Tells x ends.Done) (sym done) refl;
      }

  pub batch_prefix : (files : Files) → old.files ≡ Some files → WrotePrefix (IsBatchSoFar lex scheme file count files) old.written new.written
  batch_prefix files f =
      let first = r.on_text.replied.prefix in
      inr (
        first.output,
        record {
          tells = lexicons.Holds r.lexicon;
          does_tell = r.holds files f;
          is_output = record { tells = Holds r.on_text.text; do_tell = r.on_text.tells files f; is_output = first.replies };
        },
        first.grown,
      )

  pub batch_usage : result ≡ Usage → ⊥
  batch_usage u =
      let (done, wrote) = r.on_text.replied.done (subst IsNoFault (sym u) tt) in
      let d : Done ≡ Usage = sym done ∙ u in cc (d)

-- ---- the lexicon file

module _ (lex : FileWord) (scheme : Scheme) (file : FileWord) (count : ℕ) where
  -- a run without a lexicon has its outcome
  pub batch_unopened : (told : Files) (outcome : Outcome) → IsUnopened lex told outcome → IsBatchOutcome lex scheme file count told outcome
  batch_unopened told outcome (openings.Missing tells is) = record { tells = NotThere; does_tell = tells; is_outcome = is }
  batch_unopened told outcome (openings.Faulty fault tells is) = record { tells = lexicons.Refused fault; does_tell = tells; is_outcome = is }

  -- with the lexicon it goes on with the text file
  pub batch_goes_on : (lexicon : Lexicon) (files : Option Files) → ((told : Files) → files ≡ Some told → DoesTell told lex.name (lexicons.Holds lexicon))
      → (told : Files) → files ≡ Some told → (outcome : Outcome) → IsTextOutcome lexicon scheme file count told outcome
      → IsBatchOutcome lex scheme file count told outcome
  batch_goes_on lexicon files holds told e outcome is = record { tells = lexicons.Holds lexicon; does_tell = holds told e; is_outcome = is }

-- what was replied is so also where the replies began after a call that left the devices as they were
pub replies_from : (lexicon : Lexicon) (scheme : Scheme) (file : FileWord) (count : ℕ) (result : Status) (mid old new : Devices) → mid ≡ old
    → RepliesToText lexicon scheme file count result mid new → RepliesToText lexicon scheme file count result old new
replies_from lexicon scheme file count result mid old new same r =
    subst (λ (d : Devices). RepliesToText lexicon scheme file count result d new) same r

-- ---- the text file

module _ (file : FileWord) (bytes : List ℕ) (files : Option Files) (first : AreFirstBytes files file.name (MOST_FILE_BYTES + 1) bytes) where
  -- it tells its bytes
  pub told_text : length bytes ≤ MOST_FILE_BYTES → (told : Files) → files ≡ Some told → TextTells told file.name (Holds bytes)
  told_text small told f =
      let (content, there, e) = first_content told file.name (MOST_FILE_BYTES + 1) bytes
      (subst (λ (x : Option Files). AreFirstBytes x file.name (MOST_FILE_BYTES + 1) bytes) f first) in
      let low = within content bytes e small in
      let same = whole content bytes e low in
      IsSound content there low bytes (ap Ok (sym same)) refl

  -- or that it is too large
  pub large_text : (lexicon : Lexicon) (scheme : Scheme) (count : ℕ) → MOST_FILE_BYTES < length bytes → (told : Files) → files ≡ Some told
      → HasOutcome (IsTextOutcome lexicon scheme file count told) (BadFile file.place Large) (file_refusal file.name (file_fault Large)) told
  large_text lexicon scheme count high told f =
      let (content, there, e) = first_content told file.name (MOST_FILE_BYTES + 1) bytes
      (subst (λ (x : Option Files). AreFirstBytes x file.name (MOST_FILE_BYTES + 1) bytes) f first) in record {
        end = ends.BadFile file.place ends.Large;
        told = refl;
        is_it = record { tells = Refused ends.Large; do_tell = IsLarge content there (longer content bytes e high) refl; is_outcome = refl };
      }

pub text_missing : (lexicon : Lexicon) (scheme : Scheme) (file : FileWord) (count : ℕ) (told : Files) → contents_of told file.name ≡ None
    → IsTextOutcome lexicon scheme file count told (outcome_over told [] ends.ReadFault)
text_missing lexicon scheme file count told e = record { tells = Missing; do_tell = IsMissing e refl; is_outcome = refl }
