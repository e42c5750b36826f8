-- A file is read as a note in one way over a lexicon, and its answer is written; so `reread` has one outcome.
use Rattle.std.proofs.Common.{◌≡◌, sym, ◌∙◌, subst}
use Rattle.outside.specs.Files.{Files}
use Rattle.lexicon_definitions.specs.Lexicons.{Lexicon}
use Rattle.note_definitions.specs.Notes as notes
use Rattle.note_definitions.specs.NoteReadings.{IsNoteRead}
use Rattle.note_definitions.proofs.ReadOnce.{read_once}
use Rattle.run_definitions.specs.Arguments.{FileWord}
use Rattle.run_definitions.specs.Ends.{Outcome, Note}
use Rattle.run_definitions.specs.SourceTells.{SourceTells, IsOutcomeAfter}
use Rattle.run_definitions.specs.RereadOutcomes.{IsRereadNoteOutcome, IsNoteFileOutcome}
use Rattle.run_definitions.proofs.OneBuildOutcome.{one_telling, one_after}

-- `reread` has one outcome over a lexicon
pub one_note_file_outcome : (lexicon : Lexicon) (file : FileWord) (files : Files) (a b : Outcome) → IsNoteFileOutcome lexicon file files a
    → IsNoteFileOutcome lexicon file files b → a ≡ b
one_note_file_outcome lexicon file files a b p q =
    let following = λ (outcome : Outcome) (note : notes.Note). IsRereadNoteOutcome lexicon note files outcome in
    let same = one_telling (IsNoteRead lexicon) Note (read_once lexicon) files file.name p.tells q.tells p.do_tell q.do_tell in
    one_after q.tells file files a b (following a) (following b) (λ note l r. l ∙ sym r)
    (subst (λ (t : SourceTells notes.Note). IsOutcomeAfter t file files a (following a)) same p.is_outcome) q.is_outcome
