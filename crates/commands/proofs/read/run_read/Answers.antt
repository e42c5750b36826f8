-- A session is served over the lexicon of the file, or the run ends without one.
use Rattle.std.proofs.Common.{refl}
use Rattle.std.specs.Prelude.{None}
use Rattle.command_words.specs.Meant.{word_meant}
use Rattle.run_definitions.specs.ReadOutcomes.{IsReadOutcome}
use Rattle.commands.specs.Openings.{IsUnopened}
use Rattle.commands.specs.Sessions.{Apart, InSession}
use Rattle.commands.proofs.Runs.{embedded}
use Rattle.commands.proofs.OpenedFiles.{lexicon_lent}
use Rattle.commands.proofs.SessionRuns.{served_over, read_unopened}
use Rattle.commands.proofs.read.run_read.Goals as goal

pub returns-in-Ok : goal.returns-in-Ok
returns-in-Ok g c =
    let lex = word_meant c.args.lex.now in
    let opened = lexicon_lent lex c.in-Ok.lexicon.value c.deref.result.now _ _ c.deref.ensures c.in-Ok.ensures.opened in
    InSession lex refl (served_over lex c.deref.result.now.lexicon _ _ _ _ _ _ opened c.serve.result c.status_of.ensures refl refl (record {
      session = c.serve.ensures.session;
      prefix = c.serve.ensures.prefix;
      replies = c.serve.ensures.replies;
      read_fault = c.serve.ensures.read_fault;
      write_fault = c.serve.ensures.write_fault;
    }))

pub returns-in-Err : goal.returns-in-Err
returns-in-Err g c =
    let lex = word_meant c.args.lex.now in
    let input = g.I.Source.left c.args.input.now in
    Apart refl (embedded (IsUnopened lex) (λ files outcome. IsReadOutcome lex files input outcome) _ _ _ _ _ _
    (λ told e outcome is. read_unopened lex input told outcome is) (λ word m. m) (c.in-Err.ensures.ended None))
