-- One phase more; one that may not begin, or to which no state leads, does nothing. The states that lead by a phase to those after which the
-- line goes on are those that go further by it (`LivingVisits`).
use Rattle.std.proofs.Common.{ℕ, ◌+◌, ◌↔◌, length, subst, arith}
use Rattle.std.proofs.lemmas.Bool.{MatchBool-at_false}
use Rattle.phase_automaton.specs.Automata.{StateMachine}
use Rattle.search_frames.specs.Configurations.{rules_in}
use Rattle.search_frames.specs.Frames.{numbered_of}
use Rattle.search_frames.proofs.AheadTests.{begins_if_stands}
use Rattle.summary_chart.specs.declared.state_set.StateSet.{StateSet}
use Rattle.summary_chart.specs.Onward.{AreLivingBy}
use Rattle.summary_chart.specs.Spreading.{EveryKey, IsInPhase}
use Rattle.summary_chart.specs.StateSets.{HasState, IsLedTo, LeadsInto}
use Rattle.summary_chart.specs.Summaries.{steps_of_fronts}
use Rattle.summary_chart.proofs.FurtherKeys.{possible_if_further}
use Rattle.summary_chart.proofs.LivingVisits.{further_into}
use Rattle.summary_chart.proofs.VisitedKeys.{visit_phase, visit_empty_phase, visit_all_phases}
use Rattle.summary_chart.proofs.Visits.{gather_visit, gathers_found, further_leads, further_stands, all_further}
use Rattle.summary_chart.proofs.SummarySteps.{one_more_within, fewer_within, phase_within}
use Rattle.summary_chart.proofs.gathering.gather.Goals as goal

pub loop-phase-preserved-then-not-lead : goal.loop-phase-preserved-then-not-lead
loop-phase-preserved-then-not-lead g c =
    let inv = c.loop-phase.invariant in
    let searched = c.args.site.lexicon.now in
    let line = c.args.site.line.now in
    let choices = c.args.site.choices.now in
    let place = c.args.site.place.now in
    let table = c.args.table.now in
    let set = c.args.states in
    let phase = c.loop-phase.phase in
    record {
      end = inv.end;
      low = omega (arith, c.loop-phase-test.true, inv.end);
      gathers = λ empty nothing. visit_empty_phase searched line choices place StateSet (gather_visit searched line choices place set table) phase
          (λ key does told.
          let somewhere = further_leads searched line choices place set table key does.0 does.1 does.2 in
          MatchBool-at_false _ _ c.if-not-lead.true
          (c.lead.ensures searched.machine c.requires.leading (omega (arith, c.loop-phase-test.true, inv.end, c.requires.site.searched.phases)))
          somewhere.0 (subst (λ (p : ℕ). IsLedTo searched.machine set p somewhere.0) told somewhere.1))
          empty c.loop-phase.gathered (inv.gathers empty nothing);
      known = inv.known;
      fronts = inv.fronts;
      few = omega (arith, inv.few);
      room = inv.room;
      later = inv.later;
      spent = λ most few. one_more_within c.args.steps.now phase (1 + steps_of_fronts most) c.loop-phase.steps c.tick.new.self
          (inv.spent most few) (omega (arith, c.tick.ensures));
    }

pub loop-phase-preserved-in_default : goal.loop-phase-preserved-in_default
loop-phase-preserved-in_default g c =
    let inv = c.loop-phase.invariant in
    let searched = c.args.site.lexicon.now in
    let line = c.args.site.line.now in
    let choices = c.args.site.choices.now in
    let place = c.args.site.place.now in
    let table = c.args.table.now in
    let set = c.args.states in
    let phase = c.loop-phase.phase in
    record {
      end = inv.end;
      low = omega (arith, c.loop-phase-test.true, inv.end);
      gathers = λ empty nothing. visit_empty_phase searched line choices place StateSet (gather_visit searched line choices place set table) phase
          (λ key does told. c.in_default.ensures.begun key (possible_if_further searched line choices table place set key does.0 does.2)
          (begins_if_stands searched line choices (numbered_of searched place) key (further_stands searched line choices place set table key does.0 does.2)) told)
          empty c.loop-phase.gathered (inv.gathers empty nothing);
      known = c.in_default.ensures.known;
      fronts = inv.fronts;
      few = omega (arith, inv.few);
      room = inv.room;
      later = inv.later;
      spent = λ most few. one_more_within c.args.steps.now phase (1 + steps_of_fronts most) c.loop-phase.steps c.begun_front.new.steps
          (inv.spent most few) (omega (arith, c.tick.ensures, c.begun_front.ensures.steps));
    }

pub loop-phase-preserved : goal.loop-phase-preserved
loop-phase-preserved g c =
    let inv = c.loop-phase.invariant in
    let searched = c.args.site.lexicon.now in
    let line = c.args.site.line.now in
    let choices = c.args.site.choices.now in
    let place = c.args.site.place.now in
    let table = c.args.table.now in
    let set = c.args.states in
    let phase = c.loop-phase.phase in
    let living = c.in_ok-living.living in
    let are : AreLivingBy searched line choices (numbered_of searched place) table (IsInPhase phase) living =
    subst (λ (p : ℕ). AreLivingBy searched line choices (numbered_of searched place) table (IsInPhase p) living) c.in-Some.ensures.begun.0 c.in_ok-living.ensures.living in
    let into = subst (λ (machine : StateMachine). (number : ℕ) → HasState c.states_into-found.result number ↔ LeadsInto machine set phase living number)
    c.automaton-automaton.ensures.value c.states_into-found.ensures in
    record {
      end = inv.end;
      low = omega (arith, c.loop-phase-test.true, inv.end);
      gathers = λ empty nothing. visit_phase searched line choices place StateSet (gather_visit searched line choices place set table) phase
          empty c.loop-phase.gathered c.union-gathered.result (inv.gathers empty nothing)
          (gathers_found searched line choices place set table (IsInPhase phase) c.loop-phase.gathered c.states_into-found.result c.union-gathered.result
          (further_into searched line choices place table set phase living are c.states_into-found.result into) c.union-gathered.ensures);
      known = c.in-Some.ensures.known;
      fronts = c.in_ok-living.ensures.fronts;
      few = omega (arith, inv.few, c.in_ok-living.ensures.few);
      room = c.in_ok-living.ensures.room;
      later = λ later. c.in_ok-living.ensures.later (inv.later later);
      spent = λ most few. one_more_within c.args.steps.now phase (1 + steps_of_fronts most) c.loop-phase.steps c.living_from_first.new.steps
          (inv.spent most few)
          (let spent = c.living_from_first.ensures.steps most few in
          let short = inv.few in
          let low = inv.low in
          let within = phase_within searched most (length c.loop-phase.room.fronts.items) c.requires.site.searched (omega (arith, short, low)) in
          omega (arith, spent, within, c.tick.ensures, c.begun_front.ensures.steps));
    }

pub returns-in_err-living-clause-steps : goal.returns-in_err-living-clause-steps
returns-in_err-living-clause-steps g c most few =
    let inv = c.loop-phase.invariant in
    let searched = c.args.site.lexicon.now in
    let spent = c.living_from_first.ensures.steps most few in
    let short = inv.few in
    let low = inv.low in
    let within = phase_within searched most (length c.loop-phase.room.fronts.items) c.requires.site.searched (omega (arith, short, low)) in
    let one = one_more_within c.args.steps.now c.loop-phase.phase (1 + steps_of_fronts most) c.loop-phase.steps c.living_from_first.new.steps
    (inv.spent most few) (omega (arith, spent, within, c.tick.ensures, c.begun_front.ensures.steps)) in
    let all = fewer_within (c.loop-phase.phase + 1) (length (rules_in searched).names) (1 + steps_of_fronts most) (omega (arith, c.loop-phase-test.true, inv.end)) in
    omega (arith, one, all)

pub returns-clause-gathers : goal.returns-clause-gathers
returns-clause-gathers g c =
    let inv = c.loop-phase.invariant in
    let searched = c.args.site.lexicon.now in
    let line = c.args.site.line.now in
    let choices = c.args.site.choices.now in
    let place = c.args.site.place.now in
    let table = c.args.table.now in
    let set = c.args.states in
    let none = c.empty-gathered.ensures.none in
    all_further searched line choices place set table EveryKey c.empty-gathered.result c.loop-phase.gathered none
    (visit_all_phases searched line choices place StateSet (gather_visit searched line choices place set table) c.loop-phase.phase c.requires.site.searched
    (omega (arith, c.loop-phase-test.false, inv.end)) c.empty-gathered.result c.loop-phase.gathered (inv.gathers c.empty-gathered.result none))

pub returns-clause-steps : goal.returns-clause-steps
returns-clause-steps g c most few =
    let inv = c.loop-phase.invariant in
    let spent = inv.spent most few in
    let all = fewer_within c.loop-phase.phase (length (rules_in c.args.site.lexicon.now).names) (1 + steps_of_fronts most) inv.low in
    omega (arith, spent, all)
