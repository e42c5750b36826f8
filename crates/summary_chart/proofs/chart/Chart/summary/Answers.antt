-- The items of the table in order are the summary, and what they take is within the bound.
use Rattle.std.proofs.Common.{subst}
use Rattle.text_definitions.specs.Lines.{IsLine}
use Rattle.summary_chart.proofs.TableItems.{summary_of_table}
use Rattle.summary_chart.proofs.SummarySteps.{summary_within}
use Rattle.summary_chart.proofs.chart.Chart.summary.Goals as goal

pub returns-clause-ok : goal.returns-clause-ok
returns-clause-ok g c =
    summary_of_table c.args.lexicon.now c.args.line.now c.args.choices.now c.args.self.now.table c.requires.chart.table c.in_ok-items.items.items c.sort_items.new.items.items
    c.rules-rules.ensures.searched (subst IsLine c.line.view_is c.line.invariant)
    c.in_ok-items.ensures.items
    c.sort_items.ensures.rising c.sort_items.ensures.same

pub returns-clause-bound : goal.returns-clause-bound
returns-clause-bound g c most few =
    summary_within c.args.lexicon.now c.args.line.now most c.args.steps.now c.unsorted_items.new.steps c.rules-rules.ensures.searched
    (c.unsorted_items.ensures.steps most few)

pub returns-in_err-items-clause-bound : goal.returns-in_err-items-clause-bound
returns-in_err-items-clause-bound g c most few =
    summary_within c.args.lexicon.now c.args.line.now most c.args.steps.now c.unsorted_items.new.steps c.rules-rules.ensures.searched
    (c.unsorted_items.ensures.steps most few)
