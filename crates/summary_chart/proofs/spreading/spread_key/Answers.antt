-- Where the key leads on to as the letters tell, just the states were put in that come after it.
use Rattle.std.proofs.Common.{length}
use Rattle.derivation.specs.Steps.{key_meant}
use Rattle.summary_chart.specs.Spreading.{leads_in}
use Rattle.summary_chart.specs.Tables.{index_in}
use Rattle.summary_chart.proofs.TablePlaces.{has_set, grown_at, still_table}
use Rattle.summary_chart.proofs.PutKeys.{puts_one, puts_nothing}
use Rattle.summary_chart.proofs.spreading.spread_key.Goals as goal

pub add-requires : goal.add-requires
add-requires c =
    let may = c.in-LeadsOn.ensures.exact in
    has_set (leads_in c.args.onward.here.site.lexicon.now) (length c.args.onward.here.site.line.now.letters) c.args.table.now c.in-LeadsOn.at c.in-LeadsOn.entrance c.requires.table may.within may.over

pub returns-in-LeadsOn-clause-spreads : goal.returns-in-LeadsOn-clause-spreads
returns-in-LeadsOn-clause-spreads c =
    puts_one c.args.onward.here.site.lexicon.now c.args.onward.here.site.line.now c.args.onward.here.site.choices.now c.args.onward.here.site.place.now c.args.onward.after (key_meant c.args.key) c.in-LeadsOn.at c.in-LeadsOn.entrance
    c.in-LeadsOn.ensures.exact c.args.table.now c.add.new.self c.add.ensures.entrance c.requires.table
    (grown_at c.in-LeadsOn.at c.in-LeadsOn.entrance c.args.onward.after c.args.table.now c.add.new.self c.add.ensures.changes c.add.ensures.added)

pub returns-in-LeadsOn-clause-table : goal.returns-in-LeadsOn-clause-table
returns-in-LeadsOn-clause-table c =
    still_table (leads_in c.args.onward.here.site.lexicon.now) (length c.args.onward.here.site.line.now.letters) (index_in c.args.table.now c.in-LeadsOn.at c.in-LeadsOn.entrance)
    c.args.table.now c.add.new.self c.add.ensures.changes c.requires.table

pub returns-in_default : goal.returns-in_default
returns-in_default c = record {
  table = c.requires.table;
  spreads = puts_nothing c.args.onward.here.site.lexicon.now c.args.onward.here.site.line.now c.args.onward.here.site.choices.now c.args.onward.here.site.place.now c.args.onward.after (key_meant c.args.key) c.test.result
      c.test.ensures.exact c.in_default.not-LeadsOn c.args.table.now;
}
