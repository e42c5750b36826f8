-- The frames of the first keys stand as those of the answer do, and what comes after these keys is past them.
use Rattle.std.proofs.Common.{◌+◌, ◌-◌, ◌*◌, ◌<◌, ◌≤◌, List, length, take, min, arith, ap, sym, ◌∙◌, subst}
use Rattle.std.specs.Bool.{OnTrue, OnFalse}
use Rattle.segmentation_definitions.specs.Listings.{Key}
use Rattle.search_frames.specs.Stacks.{IsStack, KeepsBefore, depth_of}
use Rattle.segmenter.specs.Chains.{AreFrames, LeadAlong, HasRoom, HasFound, HasNone, ComesAfter}
use Rattle.segmenter.specs.MoveCosts.{steps_of_levels, levels_after}
use Rattle.segmenter.proofs.KeptFrames.{keeps_other_depth}
use Rattle.segmenter.proofs.PathsFound.{on_true, on_false}
use Rattle.segmenter.proofs.SearchStacks.{first_reached, at_opening}
use Rattle.segmenter.proofs.SkippedAnswers.{keys_here, front_below, front_room, front_frames, front_along, stands_past, none_past_here}
use Rattle.search_frames.specs.Frames.{here_of}
use Rattle.search_frames.specs.Reached.{IsReached}
use Rattle.segmenter.proofs.LevelCosts.{either_way, few_frames, later_move, no_later_move}
use Rattle.segmenter.proofs.resuming.find_past.Goals as goal

pub find_later-requires-clause-stack : goal.find_later-requires-clause-stack
find_later-requires-clause-stack g c =
    subst IsStack (sym c.use_frames.ensures) (record { steps = c.requires.stack.is_stack.steps; nodes = c.requires.stack.is_stack.nodes })

pub find_later-requires-clause-below : goal.find_later-requires-clause-below
find_later-requires-clause-below g c =
    let fewest = c.min-in_use.ensures ∙ ap (min c.args.depth) c.depth.ensures in
    subst (λ stack. 0 < depth_of stack) (sym c.use_frames.ensures)
    (front_below c.args.space.now.lexicon.now c.args.space.now.line.now c.args.space.now.choices.now c.args.stack.now c.requires.searched c.requires.stack c.requires.at
    c.args.depth c.min-in_use.result fewest c.requires.depth)

pub find_later-requires-clause-reached : goal.find_later-requires-clause-reached
find_later-requires-clause-reached g c =
    subst (λ stack. IsReached c.args.space.now.lexicon.now c.args.space.now.line.now c.args.space.now.choices.now (here_of c.args.space.now.lexicon.now stack 0)) (sym c.use_frames.ensures)
    (first_reached c.args.space.now.lexicon.now c.args.space.now.line.now c.args.space.now.choices.now c.args.stack.now (c.requires.stack.answer c.requires.at))

pub find_later-requires-clause-room : goal.find_later-requires-clause-room
find_later-requires-clause-room g c =
    let fewest = c.min-in_use.ensures ∙ ap (min c.args.depth) c.depth.ensures in
    subst (λ stack. HasRoom c.args.space.now.line.now stack 0 (here_of c.args.space.now.lexicon.now stack 0)) (sym c.use_frames.ensures)
    (front_room c.args.space.now.lexicon.now c.args.space.now.line.now c.args.space.now.choices.now c.args.stack.now c.requires.searched c.requires.stack c.requires.at
    c.args.depth c.min-in_use.result fewest)

pub find_later-requires-clause-frames : goal.find_later-requires-clause-frames
find_later-requires-clause-frames g c =
    let searched = c.args.space.now.lexicon.now in
    let line = c.args.space.now.line.now in
    let choices = c.args.space.now.choices.now in
    let fewest = c.min-in_use.ensures ∙ ap (min c.args.depth) c.depth.ensures in
    subst (λ stack. (keys : List Key) × AreFrames searched line stack 0 (here_of searched stack 0) keys × LeadAlong searched line choices (here_of searched stack 0) keys)
    (sym c.use_frames.ensures) (
      take c.min-in_use.result (keys_here searched line choices c.args.stack.now c.requires.searched c.requires.stack c.requires.at
          c.args.depth c.min-in_use.result fewest),
      front_frames searched line choices c.args.stack.now c.requires.searched c.requires.stack c.requires.at
          c.args.depth c.min-in_use.result fewest,
      front_along searched line choices c.args.stack.now c.requires.searched c.requires.stack c.requires.at
          c.args.depth c.min-in_use.result fewest c.requires.depth,
    )

pub returns-clause-found : goal.returns-clause-found
returns-clause-found g c =
    let searched = c.args.space.now.lexicon.now in
    let line = c.args.space.now.line.now in
    let choices = c.args.space.now.choices.now in
    let fewest = c.min-in_use.ensures ∙ ap (min c.args.depth) c.depth.ensures in
    let found = subst (λ stack. (keys : List Key) → AreFrames searched line stack 0 (here_of searched stack 0) keys
    → LeadAlong searched line choices (here_of searched stack 0) keys
    → OnTrue c.find_later.result (HasFound searched line choices (ComesAfter keys) c.find_later.new.stack 0 (here_of searched stack 0)))
    c.use_frames.ensures c.find_later.ensures.found in
    on_true c.find_later.result
    (stands_past searched line choices c.args.stack.now c.requires.searched c.requires.stack c.requires.at
    c.args.depth c.min-in_use.result fewest c.find_later.new.stack)
    (found _
    (front_frames searched line choices c.args.stack.now c.requires.searched c.requires.stack c.requires.at
    c.args.depth c.min-in_use.result fewest)
    (front_along searched line choices c.args.stack.now c.requires.searched c.requires.stack c.requires.at
    c.args.depth c.min-in_use.result fewest c.requires.depth))

pub returns-clause-none : goal.returns-clause-none
returns-clause-none g c =
    let searched = c.args.space.now.lexicon.now in
    let line = c.args.space.now.line.now in
    let choices = c.args.space.now.choices.now in
    let fewest = c.min-in_use.ensures ∙ ap (min c.args.depth) c.depth.ensures in
    let none = subst (λ stack. (keys : List Key) → AreFrames searched line stack 0 (here_of searched stack 0) keys
    → LeadAlong searched line choices (here_of searched stack 0) keys
    → OnFalse c.find_later.result (HasNone searched line choices (ComesAfter keys) (here_of searched stack 0)))
    c.use_frames.ensures c.find_later.ensures.none in
    on_false c.find_later.result
    (none_past_here searched line choices c.args.stack.now c.requires.searched c.requires.stack c.requires.at
    c.args.depth c.min-in_use.result fewest)
    (none _
    (front_frames searched line choices c.args.stack.now c.requires.searched c.requires.stack c.requires.at
    c.args.depth c.min-in_use.result fewest)
    (front_along searched line choices c.args.stack.now c.requires.searched c.requires.stack c.requires.at
    c.args.depth c.min-in_use.result fewest c.requires.depth))

pub returns-clause-changes : goal.returns-clause-changes
returns-clause-changes g c =
    keeps_other_depth 0 c.args.stack.now c.find_later.new.stack c.min-in_use.result
    (subst (λ stack. KeepsBefore 0 stack c.find_later.new.stack) c.use_frames.ensures c.find_later.ensures.changes)

pub returns-clause-steps : goal.returns-clause-steps
returns-clause-steps g c exact most few =
    let searched = c.args.space.now.lexicon.now in
    let line = c.args.space.now.line.now in
    let stack = c.args.stack.now in
    let fewest = c.min-in_use.ensures ∙ ap (min c.args.depth) c.depth.ensures in
    let stands = c.requires.stack.answer c.requires.at in
    let all = few_frames searched line c.args.space.now.choices.now c.requires.searched c.requires.stack.is_line stack stands in
    let depth : c.min-in_use.result ≤ 2 * length line.letters = omega (arith, all, fewest) in
    let here = at_opening searched line c.args.space.now.choices.now stack stands in
    let later = later_move searched line c.args.space.now.choices.now c.requires.searched most c.args.steps.now c.find_later.new.steps c.min-in_use.result (here_of searched stack 0) here depth in
    let none = no_later_move searched line c.args.space.now.choices.now c.requires.searched most c.args.steps.now c.find_later.new.steps c.min-in_use.result depth in
    let on = subst (λ stack. OnTrue c.find_later.result (c.find_later.new.steps ≤ c.args.steps.now + steps_of_levels searched most (depth_of stack - 0 + levels_after line (here_of searched stack 0))))
    c.use_frames.ensures (c.find_later.ensures.steps_on exact most few) in
    let ended = subst (λ stack. OnFalse c.find_later.result (c.find_later.new.steps ≤ c.args.steps.now + steps_of_levels searched most (depth_of stack - 0)))
    c.use_frames.ensures (c.find_later.ensures.steps_end exact most few) in
    either_way c.find_later.result later none on ended
