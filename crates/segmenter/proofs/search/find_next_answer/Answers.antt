-- The answer at which the stack stands has frames from the opening on; what is found there is the next answer.
use Rattle.std.proofs.Common.{sym, ◌∙◌, subst}
use Rattle.segmenter.specs.Chains.{HasFound, HasNone, ComesAfter}
use Rattle.segmenter.proofs.PathsFound.{on_true, on_false}
use Rattle.segmenter.proofs.SearchMoves.{next_at, none_at}
use Rattle.segmenter.proofs.SearchStacks.{some_depth, first_reached, first_room, frames_from_first, keys_lead_along, at_opening}
use Rattle.search_frames.specs.Frames.{here_of}
use Rattle.segmenter.proofs.LevelCosts.{either_way, few_frames, later_move, no_later_move}
use Rattle.segmenter.proofs.search.find_next_answer.Goals as goal

pub find_later-requires-clause-below : goal.find_later-requires-clause-below
find_later-requires-clause-below g c =
    some_depth c.args.space.now.lexicon.now c.args.space.now.line.now c.args.space.now.choices.now c.args.stack.now (c.requires.stack.answer (sym c.cursor.ensures ∙ c.in-At.is))

pub find_later-requires-clause-reached : goal.find_later-requires-clause-reached
find_later-requires-clause-reached g c =
    first_reached c.args.space.now.lexicon.now c.args.space.now.line.now c.args.space.now.choices.now c.args.stack.now (c.requires.stack.answer (sym c.cursor.ensures ∙ c.in-At.is))

pub find_later-requires-clause-room : goal.find_later-requires-clause-room
find_later-requires-clause-room g c =
    first_room c.args.space.now.lexicon.now c.args.space.now.line.now c.args.space.now.choices.now c.args.stack.now (c.requires.stack.answer (sym c.cursor.ensures ∙ c.in-At.is)) c.requires.stack

pub find_later-requires-clause-frames : goal.find_later-requires-clause-frames
find_later-requires-clause-frames g c =
    let stands = c.requires.stack.answer (sym c.cursor.ensures ∙ c.in-At.is) in (
      stands.keys,
      frames_from_first c.args.space.now.lexicon.now c.args.space.now.line.now c.args.space.now.choices.now c.args.stack.now stands,
      keys_lead_along c.args.space.now.lexicon.now c.args.space.now.line.now c.args.space.now.choices.now c.args.stack.now stands,
    )

pub returns-in-At-clause-found : goal.returns-in-At-clause-found
returns-in-At-clause-found g c =
    let stands = c.requires.stack.answer (sym c.cursor.ensures ∙ c.in-At.is) in
    let here = at_opening c.args.space.now.lexicon.now c.args.space.now.line.now c.args.space.now.choices.now c.args.stack.now stands in
    on_true c.find_later.result
    (λ found. next_at c.args.space.now.lexicon.now c.args.space.now.line.now c.args.space.now.choices.now c.args.stack.now c.requires.searched c.requires.stack (sym c.cursor.ensures ∙ c.in-At.is)
    c.find_later.new.stack
    (subst (HasFound c.args.space.now.lexicon.now c.args.space.now.line.now c.args.space.now.choices.now (ComesAfter stands.keys) c.find_later.new.stack 0) here found))
    (c.find_later.ensures.found stands.keys
    (frames_from_first c.args.space.now.lexicon.now c.args.space.now.line.now c.args.space.now.choices.now c.args.stack.now stands)
    (keys_lead_along c.args.space.now.lexicon.now c.args.space.now.line.now c.args.space.now.choices.now c.args.stack.now stands))

pub returns-in-At-clause-none : goal.returns-in-At-clause-none
returns-in-At-clause-none g c =
    let stands = c.requires.stack.answer (sym c.cursor.ensures ∙ c.in-At.is) in
    let here = at_opening c.args.space.now.lexicon.now c.args.space.now.line.now c.args.space.now.choices.now c.args.stack.now stands in
    on_false c.find_later.result
    (λ none. none_at c.args.space.now.lexicon.now c.args.space.now.line.now c.args.space.now.choices.now c.args.stack.now c.requires.searched c.requires.stack (sym c.cursor.ensures ∙ c.in-At.is)
    (subst (HasNone c.args.space.now.lexicon.now c.args.space.now.line.now c.args.space.now.choices.now (ComesAfter stands.keys)) here none))
    (c.find_later.ensures.none stands.keys
    (frames_from_first c.args.space.now.lexicon.now c.args.space.now.line.now c.args.space.now.choices.now c.args.stack.now stands)
    (keys_lead_along c.args.space.now.lexicon.now c.args.space.now.line.now c.args.space.now.choices.now c.args.stack.now stands))

pub returns-in-At-clause-steps : goal.returns-in-At-clause-steps
returns-in-At-clause-steps g c exact most few =
    let searched = c.args.space.now.lexicon.now in
    let line = c.args.space.now.line.now in
    let stack = c.args.stack.now in
    let stands = c.requires.stack.answer (sym c.cursor.ensures ∙ c.in-At.is) in
    let depth = few_frames searched line c.args.space.now.choices.now c.requires.searched c.requires.stack.is_line stack stands in
    let here = at_opening searched line c.args.space.now.choices.now stack stands in
    let later = later_move searched line c.args.space.now.choices.now c.requires.searched most c.args.steps.now c.find_later.new.steps stack.depth (here_of searched stack 0) here depth in
    let none = no_later_move searched line c.args.space.now.choices.now c.requires.searched most c.args.steps.now c.find_later.new.steps stack.depth depth in
    either_way c.find_later.result later none (c.find_later.ensures.steps_on exact most few) (c.find_later.ensures.steps_end exact most few)
