-- The file is written or not, and then the output.
use Rattle.std.proofs.Common.{refl, inl, inr, string_bytes}
use Rattle.command_words.specs.Meant.{word_meant}
use Rattle.commands.specs.RunEnds.{NotWritten, Written}
use Rattle.commands.proofs.AnnotateRuns.{note_noted}
use Rattle.commands.proofs.annotate.write_noted.Goals as goal

pub returns-in-Ok-write : goal.returns-in-Ok-write
returns-in-Ok-write g c lexicon line choices is =
    let out = word_meant c.args.word.now in
    Written out refl (record {
      text = c.args.note.now.text.items;
      output = string_bytes c.in-Ok.output;
      has = λ told e. note_noted lexicon line choices out c.args.note.now (string_bytes c.in-Ok.output) is c.in-Ok.ensures.ok told;
      files = rw (← c.as_slice.ensures.value) c.in-Ok-write.ensures.ok;
      failed_writes = c.in-Ok-write.ensures.writes;
      finishes = rw (← c.as_bytes.ensures.value) c.finish.ensures;
    })

pub returns-in-Err-Failed : goal.returns-in-Err-Failed
returns-in-Err-Failed g c lexicon line choices is =
    let out = word_meant c.args.word.now in
    NotWritten out refl (record {
      text = c.args.note.now.text.items;
      output = string_bytes c.in-Ok.output;
      has = λ told e. note_noted lexicon line choices out c.args.note.now (string_bytes c.in-Ok.output) is c.in-Ok.ensures.ok told;
      others = c.in-Err-Failed.ensures.others;
      written = refl;
      cause = inr (refl, rw c.in-Err-Failed.field-0-is at c.in-Err-Failed.ensures.fault);
    })

pub returns : goal.returns
returns g c lexicon line choices is =
    let out = word_meant c.args.word.now in
    NotWritten out refl (record {
      text = c.args.note.now.text.items;
      output = string_bytes c.in-Ok.output;
      has = λ told e. note_noted lexicon line choices out c.args.note.now (string_bytes c.in-Ok.output) is c.in-Ok.ensures.ok told;
      others = c.in-Err-Memory.ensures.others;
      written = refl;
      cause = inl refl;
    })
