-- One phase more adds its items; one to which no state leads has none, and neither has one that may not begin.
use Rattle.std.proofs.Common.{◌+◌, length, sym, subst, arith}
use Rattle.lexicon_definitions.specs.Lexicons.{RuleSet}
use Rattle.lexicon_definitions.specs.Leads.{leads_of}
use Rattle.derivation.specs.Guides.{entrance_of}
use Rattle.phase_automaton.specs.Automata.{StateMachine}
use Rattle.search_frames.specs.Ahead.{IsAhead, MayBegin}
use Rattle.search_frames.specs.Configurations.{rules_in}
use Rattle.summary_chart.specs.StateSets.{IsLedTo}
use Rattle.summary_chart.specs.Summaries.{steps_of_fronts}
use Rattle.summary_chart.proofs.CollectedItems.{phase_more, phase_without_state, phase_not_begun, phases_at_last}
use Rattle.summary_chart.proofs.SummarySteps.{one_more_within, fewer_within}
use Rattle.summary_chart.proofs.collecting.collect.Goals as goal
use Rattle.summary_chart.proofs.collecting.collect.Goals.{then-is_empty-via-then-is_empty, then-is_empty-via-else-is_empty+then-not-may_begin}

pub collect_phase-requires-clause-here : goal.collect_phase-requires-clause-here
collect_phase-requires-clause-here g c =
    let place = c.args.site.place.now in
    record {
      site = c.requires.site;
      ahead = subst (λ (r : RuleSet). IsAhead r c.args.site.line.now place.at (entrance_of (leads_of r.rules) place.entrance) c.of-ahead.result)
          c.rules-rules.ensures.value c.of-ahead.ensures;
    }

pub loop-phase-preserved-then-is_empty : goal.loop-phase-preserved-then-is_empty
loop-phase-preserved-then-is_empty g c =
    let inv = c.loop-phase.invariant in
    let searched = c.args.site.lexicon.now in
    record {
      end = inv.end;
      low = omega (arith, c.loop-phase-test.true, inv.end);
      collected = inv.collected;
      adds = elim c.then-is_empty.branch [
        | then-is_empty-via-then-is_empty w ↦
            phase_without_state searched c.args.site.line.now c.args.site.choices.now c.args.standing.table.now c.args.site.place.now c.args.standing.states c.loop-phase.phase c.states_after.result
            w.if-is_empty.ensures
            (λ number led. (c.states_after.ensures number).1
            (subst (λ (machine : StateMachine). IsLedTo machine c.args.standing.states c.loop-phase.phase number) (sym c.automaton.ensures.value) led))
            c.args.collected.now.items.items c.loop-phase.collected.items.items inv.adds
        | then-is_empty-via-else-is_empty+then-not-may_begin w ↦
            phase_not_begun searched c.args.site.line.now c.args.site.choices.now c.args.standing.table.now c.args.site.place.now c.args.standing.states c.loop-phase.phase
            (λ begins.
            let yes = w.may_begin.ensures.1 (subst (λ (r : RuleSet). MayBegin (entrance_of (leads_of r.rules) c.args.site.place.now.entrance) c.loop-phase.phase)
            (sym c.rules-rules.ensures.value) begins) in
            let no = w.if-not-may_begin.true in
            cc (yes, no))
            c.args.collected.now.items.items c.loop-phase.collected.items.items inv.adds
      ];
      spent = λ most few. one_more_within c.args.steps.now c.loop-phase.phase (1 + steps_of_fronts most) c.loop-phase.steps c.tick.new.self
          (inv.spent most few) (omega (arith, c.tick.ensures));
    }

pub loop-phase-preserved : goal.loop-phase-preserved
loop-phase-preserved g c =
    let inv = c.loop-phase.invariant in
    record {
      end = inv.end;
      low = omega (arith, c.loop-phase-test.true, inv.end);
      collected = c.in_ok-collect_phase.ensures.collected;
      adds = phase_more c.args.site.lexicon.now c.args.site.line.now c.args.site.choices.now c.args.standing.table.now c.args.site.place.now c.args.standing.states c.loop-phase.phase
          c.args.collected.now.items.items c.loop-phase.collected.items.items c.collect_phase.new.collected.items.items inv.adds c.in_ok-collect_phase.ensures.adds;
      spent = λ most few. one_more_within c.args.steps.now c.loop-phase.phase (1 + steps_of_fronts most) c.loop-phase.steps c.collect_phase.new.steps
          (inv.spent most few) (let spent = c.collect_phase.ensures.steps most few in omega (arith, spent, c.tick.ensures));
    }

pub returns-in_err-collect_phase-clause-steps : goal.returns-in_err-collect_phase-clause-steps
returns-in_err-collect_phase-clause-steps g c most few =
    let inv = c.loop-phase.invariant in
    let spent = c.collect_phase.ensures.steps most few in
    let one = one_more_within c.args.steps.now c.loop-phase.phase (1 + steps_of_fronts most) c.loop-phase.steps c.collect_phase.new.steps
    (inv.spent most few) (omega (arith, spent, c.tick.ensures)) in
    let all = fewer_within (c.loop-phase.phase + 1) (length (rules_in c.args.site.lexicon.now).names) (1 + steps_of_fronts most) (omega (arith, c.loop-phase-test.true, inv.end)) in
    omega (arith, one, all)

pub returns-clause-adds : goal.returns-clause-adds
returns-clause-adds g c =
    let inv = c.loop-phase.invariant in
    phases_at_last c.args.site.lexicon.now c.args.site.line.now c.args.site.choices.now c.args.standing.table.now c.args.site.place.now c.args.standing.states c.loop-phase.phase c.requires.site.searched
    (omega (arith, c.loop-phase-test.false, inv.end)) c.args.collected.now.items.items c.loop-phase.collected.items.items inv.adds

pub returns-clause-steps : goal.returns-clause-steps
returns-clause-steps g c most few =
    let inv = c.loop-phase.invariant in
    let spent = inv.spent most few in
    let all = fewer_within c.loop-phase.phase (length (rules_in c.args.site.lexicon.now).names) (1 + steps_of_fronts most) inv.low in
    omega (arith, spent, all)
