-- Length by length, from the greatest on.
use Rattle.std.proofs.Common.{◌≡◌, ◌+◌, ◌-◌, ◌*◌, ◌<◌, ◌≤◌, ℕ, suc, length, sym, subst, arith}
use Rattle.std.proofs.lemmas.List.{get_or_read}
use Rattle.std.proofs.Math.Nat.{suc-mul, mul-le-mul_right}
use Rattle.derivation.specs.Steps.{key_meant}
use Rattle.search_frames.specs.Costs.{steps_of_node}
use Rattle.search_frames.specs.Frames.{numbered_of}
use Rattle.search_frames.specs.Walks.{IsNodeAt}
use Rattle.search_frames.proofs.TurnedPhases.{none_done_at_first, all_done, length_found, length_done}
use Rattle.search_frames.proofs.turning.turn_among_nodes.Goals as goal

-- so many nodes and one more are spent
one_node : (limit taken node before now start count : ℕ) → taken < limit → before + limit * node ≤ start + count * node → now ≤ before + node
    → now + taken * node ≤ start + count * node
one_node limit taken node before now start count low so_far spent =
    let fewer : suc taken * node ≤ limit * node = mul-le-mul_right node low in
    let one = suc-mul taken node in
    omega (arith, fewer, one, so_far, spent)

pub loop-taken-init : goal.loop-taken-init
loop-taken-init g c = record {
  none = none_done_at_first c.args.space.now.lexicon.now c.args.space.now.line.now c.args.space.now.choices.now (g.D.Guide.says c.args.space.now.guide.now) (numbered_of c.args.space.now.lexicon.now c.args.place.now) (key_meant c.args.from) (length c.args.nodes.now);
  spent = λ most few. omega arith;
}

pub turn_at_node-requires-clause-letters : goal.turn_at_node-requires-clause-letters
turn_at_node-requires-clause-letters g c =
    let taken = c.loop-taken.taken - 1 in
    let low : taken < length c.args.nodes.now = omega (arith, c.loop-taken-test.true, c.loop-taken.auto.taken) in
    let letters = (c.requires.nodes taken low).letters in
    omega (arith, letters, c.first_with-first.ensures.taken)

pub turn_at_node-requires-clause-phase : goal.turn_at_node-requires-clause-phase
turn_at_node-requires-clause-phase g c = omega (arith, c.requires.phase, c.first_with-first.ensures.phase)

pub turn_at_node-requires-clause-node : goal.turn_at_node-requires-clause-node
turn_at_node-requires-clause-node g c =
    let searched = c.args.space.now.lexicon.now in
    let line = c.args.space.now.line.now in
    let here = numbered_of searched c.args.place.now in
    let taken = c.loop-taken.taken - 1 in
    let low : taken < length c.args.nodes.now = omega (arith, c.loop-taken-test.true, c.loop-taken.auto.taken) in
    let among = c.requires.nodes taken low in
    let first = c.first_with-first.ensures in
    subst (λ (n : ℕ). IsNodeAt searched line here n c.first_with-first.result.taken c.index-nodes-taken.result) (sym first.phase)
    (subst (λ (n : ℕ). IsNodeAt searched line here c.args.from.phase n c.index-nodes-taken.result) (sym first.taken)
    (subst (λ (n : ℕ). IsNodeAt searched line here c.args.from.phase taken n)
    (sym (get_or_read c.args.nodes.now taken c.index-nodes-taken.result low c.index-nodes-taken.is 0)) among.walked))

pub returns-in-Some-clause-first : goal.returns-in-Some-clause-first
returns-in-Some-clause-first g c =
    let taken = c.loop-taken.taken - 1 in
    let next : c.loop-taken.taken ≡ taken + 1 = omega (arith, c.loop-taken-test.true) in
    length_found c.args.space.now.lexicon.now c.args.space.now.line.now c.args.space.now.choices.now (g.D.Guide.says c.args.space.now.guide.now) (numbered_of c.args.space.now.lexicon.now c.args.place.now) (key_meant c.args.from) (length c.args.nodes.now) c.loop-taken.taken taken (key_meant c.first_with-first.result) next c.loop-taken.auto.taken
    c.first_with-first.ensures.from c.loop-taken.invariant.none (key_meant c.in-Some.found.0) c.in-Some.found.1 c.in-Some.ensures.first

pub returns-in-Some-clause-steps : goal.returns-in-Some-clause-steps
returns-in-Some-clause-steps g c most few =
    let taken = c.loop-taken.taken - 1 in
    let low : taken < c.loop-taken.taken = omega (arith, c.loop-taken-test.true) in
    let spent = one_node c.loop-taken.taken taken (steps_of_node most) c.loop-taken.steps c.turn_at_node.new.steps c.args.steps.now (length c.args.nodes.now) low
    (c.loop-taken.invariant.spent most few) (c.turn_at_node.ensures.steps most few) in
    omega (arith, spent)

pub loop-taken-preserved : goal.loop-taken-preserved
loop-taken-preserved g c =
    let taken = c.loop-taken.taken - 1 in
    let low : taken < c.loop-taken.taken = omega (arith, c.loop-taken-test.true) in
    let next : c.loop-taken.taken ≡ taken + 1 = omega (arith, c.loop-taken-test.true) in
    record {
      none = length_done c.args.space.now.lexicon.now c.args.space.now.line.now c.args.space.now.choices.now (g.D.Guide.says c.args.space.now.guide.now) (numbered_of c.args.space.now.lexicon.now c.args.place.now) (key_meant c.args.from) (length c.args.nodes.now) c.loop-taken.taken taken (key_meant c.first_with-first.result) next c.loop-taken.auto.taken
          c.first_with-first.ensures.from c.loop-taken.invariant.none c.in-None.ensures.first;
      spent = λ most few. one_node c.loop-taken.taken taken (steps_of_node most) c.loop-taken.steps c.turn_at_node.new.steps c.args.steps.now (length c.args.nodes.now) low
          (c.loop-taken.invariant.spent most few) (c.turn_at_node.ensures.steps most few);
    }

pub returns-clause-first : goal.returns-clause-first
returns-clause-first g c =
    all_done c.args.space.now.lexicon.now c.args.space.now.line.now c.args.space.now.choices.now (g.D.Guide.says c.args.space.now.guide.now) (numbered_of c.args.space.now.lexicon.now c.args.place.now) (key_meant c.args.from) (length c.args.nodes.now) c.loop-taken.taken (omega (arith, c.loop-taken-test.false)) c.loop-taken.invariant.none
