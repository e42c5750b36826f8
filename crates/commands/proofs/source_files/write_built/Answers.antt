-- The file is written or not, and then the output.
use Rattle.std.proofs.Common.{refl, inl, inr, string_bytes}
use Rattle.command_words.specs.Meant.{word_meant}
use Rattle.commands.specs.RunEnds.{NotWritten, Written}
use Rattle.commands.proofs.BuildRuns.{lexicon_written}
use Rattle.commands.proofs.source_files.write_built.Goals as goal

pub returns-in-Ok : goal.returns-in-Ok
returns-in-Ok g c set classes held is =
    let stems = word_meant c.args.words.now.stems in
    let out = word_meant c.args.words.now.out in
    Written out refl (record {
      text = c.args.built.now.text.items;
      output = string_bytes c.args.built.now.output;
      has = λ told e. lexicon_written set classes held stems out c.args.built.now is told;
      files = rw (← c.as_slice.ensures.value) c.in-Ok.ensures.ok;
      failed_writes = c.in-Ok.ensures.writes;
      finishes = rw (← c.as_bytes.ensures.value) c.finish.ensures;
    })

pub returns-in-Err-Failed : goal.returns-in-Err-Failed
returns-in-Err-Failed g c set classes held is =
    let stems = word_meant c.args.words.now.stems in
    let out = word_meant c.args.words.now.out in
    NotWritten out refl (record {
      text = c.args.built.now.text.items;
      output = string_bytes c.args.built.now.output;
      has = λ told e. lexicon_written set classes held stems out c.args.built.now is told;
      others = c.in-Err-Failed.ensures.others;
      written = refl;
      cause = inr (refl, rw c.in-Err-Failed.field-0-is at c.in-Err-Failed.ensures.fault);
    })

pub returns-in-Err-Memory : goal.returns-in-Err-Memory
returns-in-Err-Memory g c set classes held is =
    let stems = word_meant c.args.words.now.stems in
    let out = word_meant c.args.words.now.out in
    NotWritten out refl (record {
      text = c.args.built.now.text.items;
      output = string_bytes c.args.built.now.output;
      has = λ told e. lexicon_written set classes held stems out c.args.built.now is told;
      others = c.in-Err-Memory.ensures.others;
      written = refl;
      cause = inl refl;
    })
