-- What `reread` says of the outcome: the file of the note tells the note, its fault, or that it is not there; and the note has an answer, which
-- has a step.
use Rattle.std.proofs.Common.{◌≡◌, ℕ, List, [], Option, Some, None, refl, ap}
use Rattle.outside.specs.Files.{Files, contents_of}
use Rattle.lexicon_definitions.specs.Lexicons.{Lexicon}
use Rattle.note_definitions.specs.NoteReadings.{IsNoteRead}
use Rattle.run_definitions.specs.Commands.{FileWord}
use Rattle.run_definitions.specs.Ends as ends
use Rattle.run_definitions.specs.Ends.{Outcome, outcome_over}
use Rattle.run_definitions.specs.Refusals.{file_refusal}
use Rattle.run_definitions.specs.LexiconTells as lexicons
use Rattle.run_definitions.specs.LexiconTells.{NotThere, DoesTell}
use Rattle.run_definitions.specs.SourceTells.{Missing, Refused, Holds, IsMissing}
use Rattle.run_definitions.specs.RereadOutcomes.{IsNoteFileOutcome, IsRereadOutcome}
use Rattle.commands.specs.declared.status.Status.TheVariants.{Done, BadFile}
use Rattle.commands.specs.declared.status.AnyFault.{AnyFault}
use Rattle.commands.specs.Faults.{file_fault}
use Rattle.commands.specs.RunEnds.{HasOutcome}
use Rattle.commands.specs.Sources.{IsRefusedSource}
use Rattle.commands.specs.Openings as openings
use Rattle.commands.specs.Openings.{IsUnopened}
use Rattle.commands.specs.Rereads.{IsPrintedNote}
use Rattle.commands.proofs.BuildRuns.{AreRead, told_held, told_refused}

-- ---- the file of the note

module _ (lexicon : Lexicon) (file : FileWord) where
  pub note_missing : (told : Files) → contents_of told file.name ≡ None → IsNoteFileOutcome lexicon file told (outcome_over told [] ends.ReadFault)
  note_missing told e = record { tells = Missing; do_tell = IsMissing e refl; is_outcome = refl }

  pub note_refused : (files : Option Files) (bytes : List ℕ) (fault : AnyFault) → AreRead files file.name bytes
      → IsRefusedSource (IsNoteRead lexicon) ends.Note bytes (file_fault fault) → (told : Files) → files ≡ Some told
      → HasOutcome (IsNoteFileOutcome lexicon file told) (BadFile file.place fault) (file_refusal file.name (file_fault fault)) told
  note_refused files bytes fault read why told e = record {
    end = ends.BadFile file.place (file_fault fault);
    told = refl;
    is_it = record {
      tells = Refused (file_fault fault);
      do_tell = told_refused (IsNoteRead lexicon) ends.Note files told file.name bytes e read (file_fault fault) why;
      is_outcome = refl;
    };
  }

  pub note_held : (files : Option Files) (bytes output : List ℕ) → AreRead files file.name bytes → IsPrintedNote lexicon bytes output
      → (told : Files) → files ≡ Some told → HasOutcome (IsNoteFileOutcome lexicon file told) Done output told
  note_held files bytes output read p told e = record {
    end = ends.Done;
    told = refl;
    is_it = record {
      tells = Holds p.note;
      do_tell = told_held (IsNoteRead lexicon) ends.Note files told file.name bytes e read p.note p.held;
      is_outcome = ap (λ out. outcome_over told out ends.Done) p.printed;
    };
  }

-- ---- the lexicon file

module _ (lex file : FileWord) where
  -- a run without a lexicon has its outcome
  pub reread_unopened : (told : Files) (outcome : Outcome) → IsUnopened lex told outcome → IsRereadOutcome lex file told outcome
  reread_unopened told outcome (openings.Missing tells is) = record { tells = NotThere; does_tell = tells; is_outcome = is }
  reread_unopened told outcome (openings.Faulty fault tells is) = record { tells = lexicons.Refused fault; does_tell = tells; is_outcome = is }

  -- with the lexicon it goes on with the file of the note
  pub reread_goes_on : (lexicon : Lexicon) (files : Option Files)
      → ((told : Files) → files ≡ Some told → DoesTell told lex.name (lexicons.Holds lexicon)) → (told : Files) → files ≡ Some told
      → (outcome : Outcome) → IsNoteFileOutcome lexicon file told outcome → IsRereadOutcome lex file told outcome
  reread_goes_on lexicon files holds told e outcome is = record { tells = lexicons.Holds lexicon; does_tell = holds told e; is_outcome = is }
