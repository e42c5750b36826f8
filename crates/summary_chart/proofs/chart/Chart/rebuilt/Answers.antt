-- The table that the passes leave is that of a guide; and two passes take fewer steps than the bound.
use Rattle.std.proofs.Common.{length, subst, arith}
use Rattle.text_definitions.specs.Lines.{IsLine}
use Rattle.phase_automaton.specs.Automata.{IsStateMachine}
use Rattle.summary_chart.specs.Spreading.{leads_in}
use Rattle.summary_chart.proofs.EmptiedSets.{can_be_emptied}
use Rattle.summary_chart.proofs.ChartGuides.{chart_is_guide, chart_is_exact}
use Rattle.summary_chart.proofs.SummarySteps.{passes_within}
use Rattle.summary_chart.proofs.chart.Chart.rebuilt.Goals as goal

pub invariant_of-result : goal.invariant_of-result
invariant_of-result g c =
    can_be_emptied (leads_in c.args.lexicon.now) (length c.args.line.now.letters) c.keep_living.new.table c.in_ok-keep_living.ensures.living.lawful

pub returns-clause-guide : goal.returns-clause-guide
returns-clause-guide g c =
    chart_is_guide c.args.lexicon.now c.args.line.now c.args.choices.now c.keep_living.new.table c.rules-rules.ensures.searched
    (subst IsLine c.line.view_is c.line.invariant) c.in_ok-keep_living.ensures.living
    (subst IsStateMachine c.automaton.ensures.value c.states-states.ensures.machine)

pub returns-clause-exact : goal.returns-clause-exact
returns-clause-exact g c =
    chart_is_exact c.args.lexicon.now c.args.line.now c.args.choices.now c.keep_living.new.table c.rules-rules.ensures.searched
    (subst IsLine c.line.view_is c.line.invariant) c.in_ok-keep_living.ensures.living

pub returns-clause-bound : goal.returns-clause-bound
returns-clause-bound g c most few =
    let first = c.reach.ensures.steps most few in
    let second = c.keep_living.ensures.steps most few in
    passes_within c.args.lexicon.now c.args.line.now most c.args.steps.now c.keep_living.new.steps c.rules-rules.ensures.searched (omega (arith, first, second))

pub returns-in_err-keep_living-clause-bound : goal.returns-in_err-keep_living-clause-bound
returns-in_err-keep_living-clause-bound g c most few =
    let first = c.reach.ensures.steps most few in
    let second = c.keep_living.ensures.steps most few in
    passes_within c.args.lexicon.now c.args.line.now most c.args.steps.now c.keep_living.new.steps c.rules-rules.ensures.searched (omega (arith, first, second))

pub returns-in_err-each_has_stop-clause-bound : goal.returns-in_err-each_has_stop-clause-bound
returns-in_err-each_has_stop-clause-bound g c most few =
    let first = c.reach.ensures.steps most few in
    passes_within c.args.lexicon.now c.args.line.now most c.args.steps.now c.reach.new.steps c.rules-rules.ensures.searched (omega (arith, first))
