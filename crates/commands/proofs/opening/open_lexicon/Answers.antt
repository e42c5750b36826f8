-- The lexicon that was built is that of the contents, and building it leaves the devices as they were.
use Rattle.std.proofs.Common.{refl, sym, ap, subst}
use Rattle.lexicon_definitions.specs.Lexicons.{Lexicon}
use Rattle.command_words.specs.Meant.{word_meant}
use Rattle.run_definitions.specs.LexiconTells.{Holds, DoesTell}
use Rattle.commands.specs.RunEnds.{Devices, Wanting}
use Rattle.commands.proofs.opening.open_lexicon.Goals as goal

pub returns-in-Ok-clause-opened : goal.returns-in-Ok-clause-opened
returns-in-Ok-clause-opened g c =
    let opened = c.in_ok-contents.ensures.opened in record {
      holds = λ told e. subst (λ (lexicon : Lexicon). DoesTell told (word_meant c.args.word.now).name (Holds lexicon)) (sym c.in-Ok.ensures.ok)
          (opened.holds told e);
      same = opened.same;
    }

pub returns-in-Err-clause-ended : goal.returns-in-Err-clause-ended
returns-in-Err-clause-ended g c writes =
    let same = c.in_ok-contents.ensures.opened.same in
    Wanting refl (record {
      files = ap (λ (d : Devices). d.files) same;
      failed_writes = ap (λ (d : Devices). d.failed_writes) same;
      written = ap (λ (d : Devices). d.written) same;
    })
