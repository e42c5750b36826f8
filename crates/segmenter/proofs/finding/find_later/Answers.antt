-- What comes after the keys of the frames in use begins with a later key of one of them, the last that has such a path.
use Rattle.std.proofs.Common.{◌≡◌, ◌+◌, ◌-◌, ◌≤◌, sym, arith, subst}
use Rattle.search_frames.specs.Frames.{here_of}
use Rattle.search_frames.specs.Costs.{steps_of_frame}
use Rattle.segmenter.specs.MoveCosts.{steps_of_levels, levels_after}
use Rattle.segmenter.proofs.FramesAlong.{AreGoneOver, none_gone_over, next_here, next_ready, next_rises, next_found, next_keeps, next_gone_over, all_gone_over}
use Rattle.segmenter.proofs.LevelCosts.{later_found_costs, later_none_costs}
use Rattle.segmenter.proofs.finding.find_later.Goals as goal

pub loop-below-init : goal.loop-below-init
loop-below-init g c = record {
  over = subst (λ below. AreGoneOver c.args.space.now.lexicon.now c.args.space.now.line.now c.args.space.now.choices.now c.args.stack.now c.args.level below c.args.stack.now) (sym c.depth-below.ensures)
      (none_gone_over c.args.space.now.lexicon.now c.args.space.now.line.now c.args.space.now.choices.now c.args.stack.now c.args.level c.requires.stack c.requires.below);
  spent = λ exact most few. omega arith;
}

pub find_next-requires-clause-placed : goal.find_next-requires-clause-placed
find_next-requires-clause-placed g c =
    (next_ready c.args.space.now.lexicon.now c.args.space.now.line.now c.args.space.now.choices.now c.args.stack.now c.args.level
    c.loop-below.below c.loop-below.stack c.loop-below-test.true c.loop-below.invariant.over
    c.requires.searched c.requires.reached c.requires.room c.requires.frames).placed

pub find_next-requires-clause-stands : goal.find_next-requires-clause-stands
find_next-requires-clause-stands g c =
    (next_ready c.args.space.now.lexicon.now c.args.space.now.line.now c.args.space.now.choices.now c.args.stack.now c.args.level
    c.loop-below.below c.loop-below.stack c.loop-below-test.true c.loop-below.invariant.over
    c.requires.searched c.requires.reached c.requires.room c.requires.frames).stands

pub find_next-requires-clause-reached : goal.find_next-requires-clause-reached
find_next-requires-clause-reached g c =
    (next_ready c.args.space.now.lexicon.now c.args.space.now.line.now c.args.space.now.choices.now c.args.stack.now c.args.level
    c.loop-below.below c.loop-below.stack c.loop-below-test.true c.loop-below.invariant.over
    c.requires.searched c.requires.reached c.requires.room c.requires.frames).reached

pub find_next-requires-clause-room : goal.find_next-requires-clause-room
find_next-requires-clause-room g c =
    (next_ready c.args.space.now.lexicon.now c.args.space.now.line.now c.args.space.now.choices.now c.args.stack.now c.args.level
    c.loop-below.below c.loop-below.stack c.loop-below-test.true c.loop-below.invariant.over
    c.requires.searched c.requires.reached c.requires.room c.requires.frames).room

pub returns-then-find_next-clause-found : goal.returns-then-find_next-clause-found
returns-then-find_next-clause-found g c =
    next_found c.args.space.now.lexicon.now c.args.space.now.line.now c.args.space.now.choices.now c.args.stack.now c.args.level
    c.loop-below.below c.loop-below.stack c.loop-below-test.true c.loop-below.invariant.over
    c.find_next.new.stack c.find_next.ensures.changes c.if-find_next.ensures.found

pub returns-then-find_next-clause-changes : goal.returns-then-find_next-clause-changes
returns-then-find_next-clause-changes g c =
    next_keeps c.args.space.now.lexicon.now c.args.space.now.line.now c.args.space.now.choices.now c.args.stack.now c.args.level
    c.loop-below.below c.loop-below.stack c.loop-below-test.true c.loop-below.invariant.over
    c.find_next.new.stack c.find_next.ensures.changes

pub returns-then-find_next-clause-steps_on : goal.returns-then-find_next-clause-steps_on
returns-then-find_next-clause-steps_on g c exact most few =
    let searched = c.args.space.now.lexicon.now in
    let line = c.args.space.now.line.now in
    let stack = c.args.stack.now in
    let here = next_here c.args.space.now.lexicon.now c.args.space.now.line.now c.args.space.now.choices.now c.args.stack.now c.args.level
    c.loop-below.below c.loop-below.stack c.loop-below-test.true c.loop-below.invariant.over in
    let rises = next_rises c.args.space.now.lexicon.now c.args.space.now.line.now c.args.space.now.choices.now c.args.stack.now c.args.level
    c.loop-below.below c.loop-below.stack c.loop-below-test.true c.loop-below.invariant.over
    c.requires.searched c.requires.reached c.requires.room c.requires.frames in
    let found = subst (λ h. c.find_next.new.steps ≤ c.loop-below.steps + steps_of_frame searched most + steps_of_levels searched most (levels_after line h)) here
    (c.if-find_next.ensures.steps_on exact most few) in
    later_found_costs (steps_of_frame searched most) stack.depth c.args.level c.loop-below.below c.args.steps.now c.loop-below.steps c.find_next.new.steps
    c.loop-below-test.true c.loop-below.invariant.over.in_use (c.loop-below.invariant.spent exact most few)
    (levels_after line (here_of searched stack (c.loop-below.below - 1))) (levels_after line (here_of searched stack c.args.level)) (omega (arith, rises)) found

pub loop-below-preserved : goal.loop-below-preserved
loop-below-preserved g c = record {
  over = next_gone_over c.args.space.now.lexicon.now c.args.space.now.line.now c.args.space.now.choices.now c.args.stack.now c.args.level
      c.loop-below.below c.loop-below.stack c.loop-below-test.true c.loop-below.invariant.over
      c.find_next.new.stack c.find_next.ensures.changes c.if-find_next.ensures.none;
  spent = λ exact most few.
      later_none_costs (steps_of_frame c.args.space.now.lexicon.now most) c.args.stack.now.depth c.args.level c.loop-below.below c.args.steps.now c.loop-below.steps c.find_next.new.steps
      c.loop-below-test.true c.loop-below.invariant.over.in_use (c.loop-below.invariant.spent exact most few) (c.if-find_next.ensures.steps_end exact most few);
}

pub returns-clause-none : goal.returns-clause-none
returns-clause-none g c keys frames along =
    let from = c.loop-below.invariant.over.from in
    let past = c.loop-below-test.false in
    (all_gone_over c.args.space.now.lexicon.now c.args.space.now.line.now c.args.space.now.choices.now c.args.stack.now c.args.level
    c.loop-below.below c.loop-below.stack (omega (arith, from, past)) c.loop-below.invariant.over).none keys frames

pub returns-clause-changes : goal.returns-clause-changes
returns-clause-changes g c =
    let from = c.loop-below.invariant.over.from in
    let past = c.loop-below-test.false in
    (all_gone_over c.args.space.now.lexicon.now c.args.space.now.line.now c.args.space.now.choices.now c.args.stack.now c.args.level
    c.loop-below.below c.loop-below.stack (omega (arith, from, past)) c.loop-below.invariant.over).keeps

pub returns-clause-steps_end : goal.returns-clause-steps_end
returns-clause-steps_end g c exact most few =
    let from = c.loop-below.invariant.over.from in
    let past = c.loop-below-test.false in
    let last : c.loop-below.below ≡ c.args.level = omega (arith, from, past) in
    subst (λ below. c.loop-below.steps ≤ c.args.steps.now + steps_of_levels c.args.space.now.lexicon.now most (c.args.stack.now.depth - below)) last
    (c.loop-below.invariant.spent exact most few)
