-- One front more adds its items; no possible key of the phase takes more letters than the fronts do.
use Rattle.std.proofs.Common.{◌+◌, arith}
use Rattle.lexicon_definitions.specs.declared.limits.TheConstants.{MOST_RULE_LETTERS}
use Rattle.search_frames.specs.declared.frame.TheConstants.{NODES_OF_FRAME}
use Rattle.summary_chart.specs.Summaries.{steps_of_front}
use Rattle.summary_chart.proofs.CollectedItems.{front_more, fronts_at_last}
use Rattle.summary_chart.proofs.SummarySteps.{one_more_within, fewer_within}
use Rattle.summary_chart.proofs.collecting.collect_phase.Goals as goal

pub collect_front-requires-clause-limit : goal.collect_front-requires-clause-limit
collect_front-requires-clause-limit g c =
    let inv = c.loop-taken.invariant in
    let near = inv.fronts.near c.loop-taken.taken (omega (arith, c.loop-taken-test.true, inv.end)) in
    omega (arith, near)

pub loop-taken-preserved : goal.loop-taken-preserved
loop-taken-preserved g c =
    let inv = c.loop-taken.invariant in
    record {
      fronts = inv.fronts;
      end = inv.end;
      low = omega (arith, c.loop-taken-test.true, inv.end);
      collected = c.in_ok-collect_front.ensures.collected;
      adds = front_more c.args.here.site.lexicon.now c.args.here.site.line.now c.args.here.site.choices.now c.args.standing.table.now c.args.here.site.place.now c.args.standing.states c.args.phase c.loop-taken.taken
          c.args.collected.now.items.items c.loop-taken.collected.items.items c.collect_front.new.collected.items.items inv.adds c.in_ok-collect_front.ensures.adds;
      spent = λ most few. one_more_within (c.args.steps.now + MOST_RULE_LETTERS + NODES_OF_FRAME) c.loop-taken.taken (steps_of_front most) c.loop-taken.steps c.collect_front.new.steps
          (inv.spent most few) (c.collect_front.ensures.steps most few);
    }

pub returns-in_err-collect_front-clause-steps : goal.returns-in_err-collect_front-clause-steps
returns-in_err-collect_front-clause-steps g c most few =
    let inv = c.loop-taken.invariant in
    let one = one_more_within (c.args.steps.now + MOST_RULE_LETTERS + NODES_OF_FRAME) c.loop-taken.taken (steps_of_front most) c.loop-taken.steps c.collect_front.new.steps
    (inv.spent most few) (c.collect_front.ensures.steps most few) in
    let short = inv.fronts.few in
    let all = fewer_within (c.loop-taken.taken + 1) NODES_OF_FRAME (steps_of_front most) (omega (arith, c.loop-taken-test.true, inv.end, short)) in
    omega (arith, one, all)

pub returns-clause-adds : goal.returns-clause-adds
returns-clause-adds g c =
    let inv = c.loop-taken.invariant in
    fronts_at_last c.args.here.site.lexicon.now c.args.here.site.line.now c.args.here.site.choices.now c.args.standing.table.now c.args.here.site.place.now c.args.standing.states c.args.phase c.args.here.ahead c.requires.here.ahead c.loop-taken.taken
    c.walk_fronts.new.nodes.items (omega (arith, c.loop-taken-test.false, inv.end)) inv.fronts c.args.collected.now.items.items c.loop-taken.collected.items.items inv.adds

pub returns-clause-steps : goal.returns-clause-steps
returns-clause-steps g c most few =
    let inv = c.loop-taken.invariant in
    let spent = inv.spent most few in
    let short = inv.fronts.few in
    let low = inv.low in
    let all = fewer_within c.loop-taken.taken NODES_OF_FRAME (steps_of_front most) (omega (arith, low, short)) in
    omega (arith, spent, all)
