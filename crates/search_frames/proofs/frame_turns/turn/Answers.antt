-- The first key from the first that is still to try on is found, and the frame brought to it.
use Rattle.std.proofs.Common.{◌≡◌, refl, sym, ◌∙◌, ap, subst, arith}
use Rattle.segmentation_definitions.specs.Listings.{Key}
use Rattle.derivation.specs.Steps.{key_of, key_meant}
use Rattle.derivation.specs.declared.step.Step.{Step}
use Rattle.search_frames.specs.declared.configuration.Configuration.{Configuration}
use Rattle.search_frames.specs.FirstKeys.{IsFirstOf, IsFrom}
use Rattle.search_frames.specs.Frames.{IsConfigurationIn, key_at, numbered_of}
use Rattle.search_frames.specs.Reached.{IsReached}
use Rattle.search_frames.specs.Turns.{first_to_try}
use Rattle.search_frames.proofs.SetFrames.{step_read, set_changes}
use Rattle.search_frames.proofs.TurnedFrames.{first_phase, first_taken, few_rules, no_turn, is_turn, has_fallen, room_for_nodes}
use Rattle.search_frames.proofs.frame_turns.turn.Given as given
use Rattle.search_frames.proofs.frame_turns.turn.Goals as goal
use Rattle.search_frames.proofs.frame_turns.turn.Goals.{After-first_to_try-from}

from_is : (g : given.Over) (c : After-first_to_try-from g)
    → key_meant c.first_to_try-from.result ≡ first_to_try (key_at c.args.stack.now c.args.level) c.args.to_try
from_is g c =
    let step = step_read c.args.stack.now c.args.level c.index.result.now c.requires.placed.is_stack c.requires.placed.there c.index.ensures in
    c.first_to_try-from.ensures ∙ ap (λ (s : Step). first_to_try (key_of s) c.args.to_try) step

pub first_to_try-from-requires : goal.first_to_try-from-requires
first_to_try-from-requires g c later =
    let step = step_read c.args.stack.now c.args.level c.index.result.now c.requires.placed.is_stack c.requires.placed.there c.index.ensures in
    let few = few_rules c.args.space.now.lexicon.now c.args.space.now.line.now c.requires.searched c.args.stack.now c.args.level c.args.to_try c.requires.stands later in
    let same = ap (λ (s : Step). s.rule) step in
    omega (arith, few, same)

pub turn_from-requires-clause-phase : goal.turn_from-requires-clause-phase
turn_from-requires-clause-phase g c =
    let low = first_phase c.args.space.now.lexicon.now c.args.space.now.line.now c.requires.searched c.args.stack.now c.args.level c.args.to_try c.requires.stands in
    let same = ap (λ (k : Key). k.phase) (from_is g (goal.at.turn_from-requires-clause-phase g c).After-first_to_try-from) in
    omega (arith, low, same)

pub turn_from-requires-clause-taken : goal.turn_from-requires-clause-taken
turn_from-requires-clause-taken g c =
    let low = first_taken c.args.space.now.lexicon.now c.args.space.now.line.now c.requires.searched c.args.stack.now c.args.level c.args.to_try c.requires.stands in
    let same = ap (λ (k : Key). k.taken) (from_is g (goal.at.turn_from-requires-clause-taken g c).After-first_to_try-from) in
    omega (arith, low, same)

pub turn_from-requires-clause-place : goal.turn_from-requires-clause-place
turn_from-requires-clause-place g c = subst (IsConfigurationIn c.args.space.now.lexicon.now c.args.space.now.line.now) (sym c.of_frame-place.ensures) c.requires.placed.within

pub turn_from-requires-clause-reached : goal.turn_from-requires-clause-reached
turn_from-requires-clause-reached g c =
    subst (λ (p : Configuration). IsReached c.args.space.now.lexicon.now c.args.space.now.line.now c.args.space.now.choices.now (numbered_of c.args.space.now.lexicon.now p)) (sym c.of_frame-place.ensures) c.requires.reached

pub turn_from-requires-clause-room : goal.turn_from-requires-clause-room
turn_from-requires-clause-room g c = room_for_nodes c.args.stack.now c.requires.placed.is_stack

pub returns-in_default-clause-turn : goal.returns-in_default-clause-turn
returns-in_default-clause-turn g c =
    no_turn c.args.space.now.lexicon.now c.args.space.now.line.now c.requires.searched c.args.space.now.choices.now (g.D.Guide.says c.args.space.now.guide.now) c.args.level c.args.to_try c.args.stack.now (key_meant c.first_to_try-from.result)
    (from_is g (goal.at.returns-in_default-clause-turn g c).After-first_to_try-from) c.of_frame-place.result c.of_frame-place.ensures c.in_default.ensures.first

pub returns-clause-turn : goal.returns-clause-turn
returns-clause-turn g c =
    is_turn c.args.space.now.lexicon.now c.args.space.now.line.now c.requires.searched c.args.space.now.choices.now (g.D.Guide.says c.args.space.now.guide.now) c.args.level c.args.to_try c.args.stack.now (key_meant c.first_to_try-from.result)
    (from_is g (goal.at.returns-clause-turn g c).After-first_to_try-from)
    (record { cursor = c.args.stack.now.cursor; depth = c.args.stack.now.depth; steps = c.args.stack.now.steps; frames = c.args.stack.now.frames; nodes = c.turn_from.new.nodes })
    c.stand_at.new.stack c.in-Some.key c.requires.placed refl refl c.stand_at.ensures c.in-Some.test
    (subst (λ (p : Configuration). IsFirstOf c.args.space.now.lexicon.now c.args.space.now.line.now c.args.space.now.choices.now (g.D.Guide.says c.args.space.now.guide.now) (numbered_of c.args.space.now.lexicon.now p) (IsFrom (key_meant c.first_to_try-from.result)) (key_meant c.in-Some.key) c.in-Some.test)
    c.of_frame-place.ensures c.in-Some.ensures.first)

pub returns-clause-falls : goal.returns-clause-falls
returns-clause-falls g c =
    has_fallen c.args.space.now.lexicon.now c.args.space.now.line.now c.requires.searched c.args.space.now.choices.now (g.D.Guide.says c.args.space.now.guide.now) c.args.level c.args.to_try c.args.stack.now (key_meant c.first_to_try-from.result)
    (from_is g (goal.at.returns-clause-falls g c).After-first_to_try-from)
    (record { cursor = c.args.stack.now.cursor; depth = c.args.stack.now.depth; steps = c.args.stack.now.steps; frames = c.args.stack.now.frames; nodes = c.turn_from.new.nodes })
    c.stand_at.new.stack c.in-Some.key c.requires.placed refl refl c.stand_at.ensures c.in-Some.test
    (subst (λ (p : Configuration). IsFirstOf c.args.space.now.lexicon.now c.args.space.now.line.now c.args.space.now.choices.now (g.D.Guide.says c.args.space.now.guide.now) (numbered_of c.args.space.now.lexicon.now p) (IsFrom (key_meant c.first_to_try-from.result)) (key_meant c.in-Some.key) c.in-Some.test)
    c.of_frame-place.ensures c.in-Some.ensures.first)

pub returns-clause-changes : goal.returns-clause-changes
returns-clause-changes g c =
    set_changes c.args.level c.args.stack.now
    (record { cursor = c.args.stack.now.cursor; depth = c.args.stack.now.depth; steps = c.args.stack.now.steps; frames = c.args.stack.now.frames; nodes = c.turn_from.new.nodes })
    c.stand_at.new.stack c.in-Some.key refl refl c.stand_at.ensures refl refl
