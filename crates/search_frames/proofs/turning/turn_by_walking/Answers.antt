-- Phase by phase.
use Rattle.std.proofs.Common.{◌≡◌, ◌+◌, ◌-◌, ◌*◌, ◌<◌, ◌≤◌, ℕ, suc, length, refl, ◌∙◌, ap, arith}
use Rattle.std.specs.Prelude.{string_bytes}
use Rattle.std.proofs.Math.Nat.{suc-mul, mul-le-mul_right}
use Rattle.std.proofs.lemmas.List.{length-map}
use Rattle.lexicon_definitions.specs.Lexicons.{RuleSet}
use Rattle.derivation.specs.Steps.{key_meant}
use Rattle.search_frames.specs.Costs.{steps_of_phase}
use Rattle.search_frames.specs.Frames.{numbered_of}
use Rattle.search_frames.proofs.TurnedPhases.{none_passed_at_first, next_phase_found, next_phase_passed, all_passed}
use Rattle.search_frames.proofs.turning.turn_by_walking.Goals as goal

-- one phase more
one_phase : (phase first cost start before now : ℕ) → first ≤ phase → before + (phase - first) ≤ start + phase * cost → now < before + cost
    → now + (phase + 1 - first) ≤ start + (phase + 1) * cost
one_phase phase first cost start before now order so_far spent =
    let one = suc-mul phase cost in
    let same : (phase + 1) * cost ≡ suc phase * cost = ap (λ (n : ℕ). n * cost) (omega arith) in
    omega (arith, order, so_far, spent, one, same)

-- no more phases than there are, and one at least
few_phases : (phases first count cost start now : ℕ) → phases ≤ count → first < phases → now + (phases - first) ≤ start + phases * cost → now < start + count * cost
few_phases phases first count cost start now few some spent = let more = mul-le-mul_right cost few in omega (arith, some, spent, more)

pub overflow_cast-phase-end : goal.overflow_cast-phase-end
overflow_cast-phase-end g c =
    let names = ap (λ (r : RuleSet). length r.names) c.rules.ensures.value in
    omega (arith, c.requires.searched.limits.phases, length-map c.phases.result.now string_bytes, ap length c.phases.ensures, names)

pub loop-phase-init : goal.loop-phase-init
loop-phase-init g c = record {
  none = none_passed_at_first c.args.space.now.lexicon.now c.args.space.now.line.now c.args.space.now.choices.now (g.D.Guide.says c.args.space.now.guide.now) (numbered_of c.args.space.now.lexicon.now c.args.place.now) (key_meant c.args.from);
  room = refl;
  after = omega arith;
  spent = λ most few. omega arith;
}

pub turn_in_phase-requires-clause-phase : goal.turn_in_phase-requires-clause-phase
turn_in_phase-requires-clause-phase g c =
    let names = ap (λ (r : RuleSet). length r.names) c.rules.ensures.value in
    omega (arith, c.loop-phase-test.true, c.first_in-first.ensures.phase, length-map c.phases.result.now string_bytes, ap length c.phases.ensures, names)

pub turn_in_phase-requires-clause-room : goal.turn_in_phase-requires-clause-room
turn_in_phase-requires-clause-room g c = omega (arith, c.requires.room, c.loop-phase.invariant.room)

pub returns-in-Some-clause-room : goal.returns-in-Some-clause-room
returns-in-Some-clause-room g c = c.turn_in_phase.ensures.room ∙ c.loop-phase.invariant.room

pub returns-in-Some-clause-first : goal.returns-in-Some-clause-first
returns-in-Some-clause-first g c =
    next_phase_found c.args.space.now.lexicon.now c.args.space.now.line.now c.args.space.now.choices.now (g.D.Guide.says c.args.space.now.guide.now) (numbered_of c.args.space.now.lexicon.now c.args.place.now) (key_meant c.args.from) c.requires.searched c.loop-phase.phase (key_meant c.first_in-first.result) c.first_in-first.ensures.phase c.first_in-first.ensures.from
    c.loop-phase.invariant.none (key_meant c.in-Some.found.0) c.in-Some.found.1 c.in-Some.ensures.first

pub returns-in-Some-clause-steps : goal.returns-in-Some-clause-steps
returns-in-Some-clause-steps g c most few =
    let names = ap (λ (r : RuleSet). length r.names) c.rules.ensures.value in
    let count : c.loop-phase.phase + 1 ≤ length c.args.space.now.lexicon.now.lexicon.rules.names =
    omega (arith, c.loop-phase-test.true, length-map c.phases.result.now string_bytes, ap length c.phases.ensures, names) in
    few_phases (c.loop-phase.phase + 1) c.args.from.phase (length c.args.space.now.lexicon.now.lexicon.rules.names) (steps_of_phase most) c.args.steps.now c.turn_in_phase.new.steps count
    (omega (arith, c.loop-phase.invariant.after))
    (one_phase c.loop-phase.phase c.args.from.phase (steps_of_phase most) c.args.steps.now c.loop-phase.steps c.turn_in_phase.new.steps c.loop-phase.invariant.after
    (c.loop-phase.invariant.spent most few) (c.turn_in_phase.ensures.steps most few))

pub loop-phase-preserved : goal.loop-phase-preserved
loop-phase-preserved g c = record {
  none = next_phase_passed c.args.space.now.lexicon.now c.args.space.now.line.now c.args.space.now.choices.now (g.D.Guide.says c.args.space.now.guide.now) (numbered_of c.args.space.now.lexicon.now c.args.place.now) (key_meant c.args.from) c.requires.searched c.loop-phase.phase (key_meant c.first_in-first.result) c.first_in-first.ensures.phase c.first_in-first.ensures.from
      c.loop-phase.invariant.none c.in-None.ensures.first;
  room = c.turn_in_phase.ensures.room ∙ c.loop-phase.invariant.room;
  after = omega (arith, c.loop-phase.invariant.after);
  spent = λ most few. one_phase c.loop-phase.phase c.args.from.phase (steps_of_phase most) c.args.steps.now c.loop-phase.steps c.turn_in_phase.new.steps c.loop-phase.invariant.after
      (c.loop-phase.invariant.spent most few) (c.turn_in_phase.ensures.steps most few);
}

pub returns-clause-first : goal.returns-clause-first
returns-clause-first g c =
    let names = ap (λ (r : RuleSet). length r.names) c.rules.ensures.value in
    let most : length c.args.space.now.lexicon.now.lexicon.rules.names ≤ c.loop-phase.phase =
    omega (arith, c.loop-phase-test.false, length-map c.phases.result.now string_bytes, ap length c.phases.ensures, names) in
    all_passed c.args.space.now.lexicon.now c.args.space.now.line.now c.args.space.now.choices.now (g.D.Guide.says c.args.space.now.guide.now) (numbered_of c.args.space.now.lexicon.now c.args.place.now) (key_meant c.args.from) c.requires.searched c.loop-phase.phase most c.loop-phase.invariant.none

pub returns-clause-steps : goal.returns-clause-steps
returns-clause-steps g c most few =
    let names = ap (λ (r : RuleSet). length r.names) c.rules.ensures.value in
    let count : c.loop-phase.phase ≤ length c.args.space.now.lexicon.now.lexicon.rules.names =
    omega (arith, c.loop-phase.auto.phase-end, length-map c.phases.result.now string_bytes, ap length c.phases.ensures, names) in
    let all : length c.args.space.now.lexicon.now.lexicon.rules.names ≤ c.loop-phase.phase =
    omega (arith, c.loop-phase-test.false, length-map c.phases.result.now string_bytes, ap length c.phases.ensures, names) in
    few_phases c.loop-phase.phase c.args.from.phase (length c.args.space.now.lexicon.now.lexicon.rules.names) (steps_of_phase most) c.args.steps.now c.loop-phase.steps count
    (omega (arith, all, c.requires.phase)) (c.loop-phase.invariant.spent most few)
