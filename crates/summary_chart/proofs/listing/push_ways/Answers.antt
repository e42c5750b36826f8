-- One phase more, which comes before those so far; one to which no state leads has no key that is asked for, and no key of one that may not
-- begin does anything. At the end all are turned round.
use Rattle.std.proofs.Common.{◌≡◌, ℕ, ◌+◌, ◌-◌, ◌*◌, ◌<◌, ◌≤◌, ◌++◌, length, take, drop, reverse, sym, ap, ◌∙◌, subst, arith}
use Rattle.std.specs.Prelude.{string_bytes}
use Rattle.std.proofs.lemmas.Bool.{OnTrue_at, MatchBool-at_true, MatchBool-at_false}
use Rattle.std.proofs.lemmas.List.{length-map}
use Rattle.lexicon_definitions.specs.Lexicons.{RuleSet}
use Rattle.lexicon_definitions.specs.Leads.{leads_of}
use Rattle.derivation.specs.Guides.{entrance_of}
use Rattle.search_frames.specs.Ahead.{IsAhead, MayBegin}
use Rattle.search_frames.specs.Configurations.{rules_in}
use Rattle.search_frames.specs.Frames.{numbered_of}
use Rattle.summary_chart.specs.PlaceWays.{AppendsFalling}
use Rattle.summary_chart.specs.Spreading.{IsInPhase, IsLedByPhase}
use Rattle.summary_chart.specs.Summaries.{steps_of_fronts}
use Rattle.summary_chart.proofs.AppendedWays.{still_begins, append_reversed}
use Rattle.summary_chart.proofs.OrderedKeys.{IsLedFrom, append_no_phase, append_phase, append_dead_phase, append_unbegun_phase, append_all_phases}
use Rattle.summary_chart.proofs.listing.push_ways.Goals as goal
use Rattle.summary_chart.proofs.listing.push_ways.Goals.{then-not-lead-via-then-not-lead, then-not-lead-via-else-not-lead+then-not-may_begin}

-- one phase less is left
one_less : (left each now then all : ℕ) → now + (left + 1) * each ≤ all → then ≤ now + each → then + left * each ≤ all
one_less left each now then all spent more =
    let parts : (left + 1) * each ≡ left * each + each = omega arith in
    omega (arith, spent, more, parts)

pub loop-phase-init : goal.loop-phase-init
loop-phase-init g c =
    let searched = c.args.site.lexicon.now in
    let end : length c.phases-phases.result.now ≡ length (rules_in searched).names =
    sym (length-map c.phases-phases.result.now string_bytes) ∙ ap length c.phases-phases.ensures ∙ ap (λ (r : RuleSet). length r.names) c.rules-rules.ensures.value in
    record {
      low = omega (arith, end);
      appends = append_no_phase searched c.args.site.line.now c.args.site.choices.now (numbered_of searched c.args.site.place.now) (g.S.Sought.sought c.args.sought.now c.args.site) c.args.states
          (length c.phases-phases.result.now) c.requires.site.searched (omega (arith, end)) c.args.ways.now.items;
      few = omega arith;
      spent = λ most few. (let same = ap (λ (n : ℕ). n * (1 + steps_of_fronts most)) end in omega (arith, same));
    }

pub push_phase-requires-clause-here : goal.push_phase-requires-clause-here
push_phase-requires-clause-here g c =
    let place = c.args.site.place.now in
    record {
      site = c.requires.site;
      ahead = subst (λ (r : RuleSet). IsAhead r c.args.site.line.now place.at (entrance_of (leads_of r.rules) place.entrance) c.of-ahead.result)
          c.rules-rules.ensures.value c.of-ahead.ensures;
    }

pub loop-phase-preserved-then-not-lead : goal.loop-phase-preserved-then-not-lead
loop-phase-preserved-then-not-lead g c =
    let inv = c.loop-phase.invariant in
    let searched = c.args.site.lexicon.now in
    let here = numbered_of searched c.args.site.place.now in
    let phase = c.loop-phase.phase - 1 in
    let one : c.loop-phase.phase ≡ phase + 1 = omega (arith, c.loop-phase-test.true) in
    let so_far = subst (λ (n : ℕ). AppendsFalling searched c.args.site.line.now c.args.site.choices.now here (g.S.Sought.sought c.args.sought.now c.args.site) (IsLedFrom searched.machine c.args.states n)
    c.args.ways.now.items c.loop-phase.ways.items) one inv.appends in
    let low : phase < searched.machine.phases = omega (arith, one, inv.low, c.requires.site.searched.phases) in
    record {
      low = omega (arith, inv.low);
      appends = elim c.then-not-lead.branch [
        | then-not-lead-via-then-not-lead w ↦
            append_dead_phase searched c.args.site.line.now c.args.site.choices.now here (g.S.Sought.sought c.args.sought.now c.args.site) c.args.states phase
            (MatchBool-at_false _ _ w.if-not-lead.true (c.lead.ensures searched.machine c.requires.leading low))
            c.args.ways.now.items c.loop-phase.ways.items so_far
        | then-not-lead-via-else-not-lead+then-not-may_begin w ↦
            append_unbegun_phase searched c.args.site.line.now c.args.site.choices.now here (g.S.Sought.sought c.args.sought.now c.args.site) c.args.states phase
            (λ begins.
            let yes = w.may_begin.ensures.1 (subst (λ (r : RuleSet). MayBegin (entrance_of (leads_of r.rules) c.args.site.place.now.entrance) phase)
            (sym c.rules-rules.ensures.value) begins) in
            let no = w.if-not-may_begin.true in
            cc (yes, no))
            c.args.ways.now.items c.loop-phase.ways.items so_far
      ];
      few = inv.few;
      spent = λ most few. one_less phase (1 + steps_of_fronts most) c.loop-phase.steps c.tick.new.self
          (c.args.steps.now + length (rules_in searched).names * (1 + steps_of_fronts most))
          (subst (λ (n : ℕ). c.loop-phase.steps + n * (1 + steps_of_fronts most) ≤ c.args.steps.now + length (rules_in searched).names * (1 + steps_of_fronts most))
          one (inv.spent most few)) (omega (arith, c.tick.ensures));
    }

pub loop-phase-preserved : goal.loop-phase-preserved
loop-phase-preserved g c =
    let inv = c.loop-phase.invariant in
    let searched = c.args.site.lexicon.now in
    let here = numbered_of searched c.args.site.place.now in
    let phase = c.loop-phase.phase - 1 in
    let one : c.loop-phase.phase ≡ phase + 1 = omega (arith, c.loop-phase-test.true) in
    let so_far = subst (λ (n : ℕ). AppendsFalling searched c.args.site.line.now c.args.site.choices.now here (g.S.Sought.sought c.args.sought.now c.args.site) (IsLedFrom searched.machine c.args.states n)
    c.args.ways.now.items c.loop-phase.ways.items) one inv.appends in
    let low : phase < searched.machine.phases = omega (arith, one, inv.low, c.requires.site.searched.phases) in
    let some = MatchBool-at_true _ _ c.if-not-lead.false (c.lead.ensures searched.machine c.requires.leading low) in
    let led = some.1 in
    record {
      low = omega (arith, inv.low);
      appends = append_phase searched c.args.site.line.now c.args.site.choices.now here (g.S.Sought.sought c.args.sought.now c.args.site) c.args.states phase some.0 led
          c.args.ways.now.items c.loop-phase.ways.items c.push_phase.new.ways.items so_far
          (OnTrue_at {P = AppendsFalling searched c.args.site.line.now c.args.site.choices.now here (g.S.Sought.sought c.args.sought.now c.args.site) (IsInPhase phase)
          c.loop-phase.ways.items c.push_phase.new.ways.items} c.if-not-branch.false c.in_ok-push_phase.ensures.appends);
      few = (let few = OnTrue_at c.if-not-branch.false c.in_ok-push_phase.ensures.few in omega (arith, few, c.len-first.ensures, c.args.ways.now.ok));
      spent = λ most few. one_less phase (1 + steps_of_fronts most) c.loop-phase.steps c.push_phase.new.steps
          (c.args.steps.now + length (rules_in searched).names * (1 + steps_of_fronts most))
          (subst (λ (n : ℕ). c.loop-phase.steps + n * (1 + steps_of_fronts most) ≤ c.args.steps.now + length (rules_in searched).names * (1 + steps_of_fronts most))
          one (inv.spent most few)) (let spent = c.push_phase.ensures.steps most few in omega (arith, spent, c.tick.ensures));
    }

pub returns-then-not-branch-clause-kept : goal.returns-then-not-branch-clause-kept
returns-then-not-branch-clause-kept g c =
    let so_far = c.loop-phase.invariant.appends in
    still_begins c.args.ways.now.items c.loop-phase.ways.items c.push_phase.new.ways.items so_far.ways so_far.appended c.in_ok-push_phase.ensures.kept

pub returns-in_err-push_phase-clause-steps : goal.returns-in_err-push_phase-clause-steps
returns-in_err-push_phase-clause-steps g c most few =
    let inv = c.loop-phase.invariant in
    let searched = c.args.site.lexicon.now in
    let phase = c.loop-phase.phase - 1 in
    let one : c.loop-phase.phase ≡ phase + 1 = omega (arith, c.loop-phase-test.true) in
    let all = c.args.steps.now + length (rules_in searched).names * (1 + steps_of_fronts most) in
    let spent = c.push_phase.ensures.steps most few in
    let less = one_less phase (1 + steps_of_fronts most) c.loop-phase.steps c.push_phase.new.steps all
    (subst (λ (n : ℕ). c.loop-phase.steps + n * (1 + steps_of_fronts most) ≤ all) one (inv.spent most few)) (omega (arith, spent, c.tick.ensures)) in
    omega (arith, less)

pub returns-then-not-branch-clause-steps : goal.returns-then-not-branch-clause-steps
returns-then-not-branch-clause-steps g c most few =
    let inv = c.loop-phase.invariant in
    let searched = c.args.site.lexicon.now in
    let phase = c.loop-phase.phase - 1 in
    let one : c.loop-phase.phase ≡ phase + 1 = omega (arith, c.loop-phase-test.true) in
    let all = c.args.steps.now + length (rules_in searched).names * (1 + steps_of_fronts most) in
    let spent = c.push_phase.ensures.steps most few in
    let less = one_less phase (1 + steps_of_fronts most) c.loop-phase.steps c.push_phase.new.steps all
    (subst (λ (n : ℕ). c.loop-phase.steps + n * (1 + steps_of_fronts most) ≤ all) one (inv.spent most few)) (omega (arith, spent, c.tick.ensures)) in
    omega (arith, less)

pub returns-clause-appends : goal.returns-clause-appends
returns-clause-appends g c =
    let searched = c.args.site.lexicon.now in
    let line = c.args.site.line.now in
    let choices = c.args.site.choices.now in
    let here = numbered_of searched c.args.site.place.now in
    let old = c.args.ways.now.items in
    let mid = c.loop-phase.ways.items in
    let none : c.loop-phase.phase ≡ 0 = omega (arith, c.loop-phase-test.false) in
    let all = append_all_phases searched line choices here (g.S.Sought.sought c.args.sought.now c.args.site) c.args.states old mid
    (subst (λ (n : ℕ). AppendsFalling searched line choices here (g.S.Sought.sought c.args.sought.now c.args.site) (IsLedFrom searched.machine c.args.states n) old mid) none c.loop-phase.invariant.appends) in
    let first : c.len-first.result ≡ length old = omega (arith, c.len-first.ensures, c.args.ways.now.ok) in
    append_reversed searched line choices here (g.S.Sought.sought c.args.sought.now c.args.site) (IsLedByPhase searched.machine c.args.states) old mid c.reverse_from.new.ways.items all
    (c.reverse_from.ensures.items ∙ ap (λ (n : ℕ). take n mid ++ reverse (drop n mid)) first)
