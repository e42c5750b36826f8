-- The file of the note is not read, or is refused, or its answer is written.
use Rattle.std.proofs.Common.{List, ℕ, [], refl, subst, string_bytes}
use Rattle.std.specs.Prelude.{None}
use Rattle.list_laws.proofs.Sorted.{Contains-first}
use Rattle.command_words.specs.Meant.{word_meant}
use Rattle.note_definitions.specs.NoteReadings.{IsNoteRead}
use Rattle.run_definitions.specs.Ends as ends
use Rattle.run_definitions.specs.RereadOutcomes.{IsNoteFileOutcome}
use Rattle.commands.specs.declared.status.Status.TheVariants.{Done, BadFile}
use Rattle.commands.specs.declared.any_error.AnyError.TheVariants.{Fault}
use Rattle.commands.specs.RunEnds.{Printed}
use Rattle.commands.specs.SourceErrors.{IsSourceError}
use Rattle.commands.specs.Rereads.{IsPrintedNote}
use Rattle.commands.proofs.Runs.{unread, refused}
use Rattle.commands.proofs.BuildRuns.{not_usage}
use Rattle.commands.proofs.RereadRuns.{note_missing, note_refused, note_held}
use Rattle.commands.proofs.reread.reread_over.Goals as goal

pub returns-in-Err : goal.returns-in-Err
returns-in-Err g c =
    let lexicon = c.args.lexicon.now.lexicon in
    let file = word_meant c.args.file.now in
    unread (IsNoteFileOutcome lexicon file) _ None _ _ _ file (Contains-first file []) (note_missing lexicon file)
    (record { files = c.read_file.ensures.files; failed_writes = c.read_file.ensures.writes; written = refl }) c.in-Err.ensures.unread

pub returns-in-Ok-reread_note : goal.returns-in-Ok-reread_note
returns-in-Ok-reread_note g c =
    let lexicon = c.args.lexicon.now.lexicon in
    let file = word_meant c.args.file.now in
    let bytes = c.in-Ok.bytes.items in
    let output = string_bytes c.in-Ok-reread_note.output in
    Printed (record {
      status = Done;
      output = output;
      not_usage = λ e. cc (e);
      files = c.read_file.ensures.files;
      failed_writes = c.read_file.ensures.writes;
      has = note_held lexicon file _ bytes output c.in-Ok.ensures.ok
          (subst (λ (b : List ℕ). IsPrintedNote lexicon b output) c.as_slice.ensures.value c.in-Ok-reread_note.ensures.ok);
      finishes = rw (← c.as_bytes.ensures.value) c.finish.ensures;
    })

pub returns-in-Err-Fault : goal.returns-in-Err-Fault
returns-in-Err-Fault g c =
    let lexicon = c.args.lexicon.now.lexicon in
    let file = word_meant c.args.file.now in
    let bytes = c.in-Ok.bytes.items in
    let fault = c.in-Err-Fault.fault in
    refused (IsNoteFileOutcome lexicon file) _ None _ _ _ (BadFile file.place fault) _ (not_usage file.place fault)
    c.read_file.ensures.files c.read_file.ensures.writes
    (note_refused lexicon file _ bytes fault c.in-Ok.ensures.ok (subst (λ (b : List ℕ). IsSourceError (IsNoteRead lexicon) ends.Note b (Fault fault)) c.as_slice.ensures.value (subst (IsSourceError (IsNoteRead lexicon) ends.Note c.as_slice.result.now) c.in-Err-Fault.field-0-is c.in-Err-Fault.ensures.refused)))
    c.refuse_file.ensures
