-- A phase to which no state leads, or of which no form may be entered, has no front (`AlikeLists`).
use Rattle.std.proofs.Common.{ℕ, ◌+◌, ◌↔◌, length, sym, subst, arith}
use Rattle.lexicon_definitions.specs.declared.limits.TheConstants.{MOST_RULE_LETTERS}
use Rattle.phase_automaton.specs.Automata.{StateMachine}
use Rattle.search_frames.specs.Configurations.{rules_in}
use Rattle.search_frames.specs.Frames.{numbered_of}
use Rattle.summary_chart.specs.StateSets.{HasState, IsLedTo}
use Rattle.summary_chart.proofs.AlikeLists.{onward_without}
use Rattle.summary_chart.proofs.SummarySteps.{one_more_within}
use Rattle.summary_chart.proofs.alike.find_onward.Goals as goal

pub loop-phase-preserved-then-is_empty : goal.loop-phase-preserved-then-is_empty
loop-phase-preserved-then-is_empty g c =
    let searched = c.args.site.lexicon.now in
    let inv = c.loop-phase.invariant in
    let phase = c.loop-phase.phase in
    record {
      end = inv.end;
      low = omega (arith, c.loop-phase-test.true, inv.end);
      few = omega (arith, inv.few);
      known = inv.known;
      fronts = onward_without searched c.args.site.line.now c.args.site.choices.now (numbered_of searched c.args.site.place.now) c.args.states phase c.loop-phase.fronts.items
          (λ key to same possible begins led.
          c.if-is_empty.ensures to ((c.states_after-after.ensures to).1
          (subst (λ (machine : StateMachine). IsLedTo machine c.args.states phase to) (sym c.automaton-automaton.ensures.value) led)))
          inv.fronts;
      spent = one_more_within c.args.steps.now phase (1 + MOST_RULE_LETTERS + length (rules_in searched).names) c.loop-phase.steps c.tick.new.self inv.spent
          (omega (arith, c.tick.ensures));
    }

pub loop-phase-preserved-in_default : goal.loop-phase-preserved-in_default
loop-phase-preserved-in_default g c =
    let searched = c.args.site.lexicon.now in
    let inv = c.loop-phase.invariant in
    let phase = c.loop-phase.phase in
    record {
      end = inv.end;
      low = omega (arith, c.loop-phase-test.true, inv.end);
      few = omega (arith, inv.few);
      known = c.in_default.ensures.known;
      fronts = onward_without searched c.args.site.line.now c.args.site.choices.now (numbered_of searched c.args.site.place.now) c.args.states phase c.loop-phase.fronts.items
          (λ key to same possible begins led. c.in_default.ensures.begun key possible begins same)
          inv.fronts;
      spent = one_more_within c.args.steps.now phase (1 + MOST_RULE_LETTERS + length (rules_in searched).names) c.loop-phase.steps c.begun_front.new.steps inv.spent
          (omega (arith, c.tick.ensures, c.begun_front.ensures.steps));
    }

pub add_onward-requires-clause-after : goal.add_onward-requires-clause-after
add_onward-requires-clause-after g c =
    let searched = c.args.site.lexicon.now in
    let led = subst (λ (machine : StateMachine). (number : ℕ) → HasState c.states_after-after.result number ↔ IsLedTo machine c.args.states c.loop-phase.phase number)
    c.automaton-automaton.ensures.value c.states_after-after.ensures in
    subst (λ (phase : ℕ). (number : ℕ) → HasState c.states_after-after.result number ↔ IsLedTo searched.machine c.args.states phase number)
    (sym c.in-Some.ensures.begun.0) led
