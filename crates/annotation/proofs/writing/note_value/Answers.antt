-- The note's value is made of its parts.
use Rattle.annotation.proofs.WrittenNotes.{note_made}
use Rattle.annotation.proofs.writing.note_value.Goals as goal

pub returns : goal.returns
returns c = record {
  ok = note_made c.args.lexicon.now.lexicon c.args.line.now c.args.choices.now c.args.steps.now _ _ _ _ c.requires.stand c.in_ok-note_object.ensures
      c.in_ok-choices.ensures.ok c.in_ok-segments.ensures.ok c.in_ok-text.ensures.ok;
}
