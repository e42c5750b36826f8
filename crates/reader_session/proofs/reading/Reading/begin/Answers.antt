-- Nothing of the line is printed.
use Rattle.std.proofs.Common.{refl}
use Rattle.reader_session.proofs.BegunReadings.{begun}
use Rattle.reader_session.proofs.reading.Reading.begin.Goals as goal

pub returns-clause-reading : goal.returns-clause-reading
returns-clause-reading c =
    let of = c.in_ok-chart.ensures in
    begun c.args.lexicon.now _ c.requires.few c.requires.items of.chart of.guide of.exact of.search refl c.clear.ensures.items refl
