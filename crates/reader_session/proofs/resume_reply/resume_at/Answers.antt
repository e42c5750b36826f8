-- A search stands at the keys of the bookmark, and so the line is read on there; or they are those of no answer.
use Rattle.std.proofs.Common.{None, refl, subst}
use Rattle.derivation.specs.Steps.{keys_meant}
use Rattle.reader_session.specs.declared.reading.Reading.{Reading}
use Rattle.reader_session.specs.Resumed.{IsStackAt}
use Rattle.reader_session.proofs.ResumedReadings.{none_resumed, resumed}
use Rattle.reader_session.proofs.resume_reply.resume_at.Goals as goal

pub returns : goal.returns
returns c =
    let reading : Reading = record {
      line = c.args.line;
      choices = c.args.choices;
      chart = c.in_ok-chart.chart;
      resumption = c.in-Some.resumption;
      printed = c.args.printed;
      last = c.in-Some.last;
      summary = None;
    } in
    let there = subst (IsStackAt c.args.lexicon.now c.args.line c.args.choices c.args.keys.now) c.in-Some.is c.in_ok-resumption.ensures.ok in
    record {
      ok = resumed c.args.lexicon.now reading (keys_meant c.args.keys.now) refl there.search c.requires.mark c.requires.phases
          c.in_ok-chart.ensures.chart c.in_ok-chart.ensures.guide c.in_ok-chart.ensures.exact there.over there.at there.is_last there.stands;
    }

pub returns-in_default : goal.returns-in_default
returns-in_default c =
    let none = subst (IsStackAt c.args.lexicon.now c.args.line c.args.choices c.args.keys.now) c.in_default.is c.in_ok-resumption.ensures.ok in
    record { ok = none_resumed c.args.lexicon.now c.args.line c.args.choices c.args.printed c.args.keys.now none.0 none.1 }
