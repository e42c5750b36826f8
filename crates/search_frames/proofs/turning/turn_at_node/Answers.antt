-- The key without a change comes before those with a rule.
use Rattle.std.proofs.Common.{arith}
use Rattle.derivation.specs.Steps.{key_meant}
use Rattle.search_frames.specs.Frames.{numbered_of}
use Rattle.search_frames.proofs.TurnedPhases.{node_unchanged, node_found}
use Rattle.search_frames.proofs.turning.turn_at_node.Goals as goal

pub returns-in-Some-clause-first : goal.returns-in-Some-clause-first
returns-in-Some-clause-first g c =
    node_unchanged c.args.space.now.lexicon.now c.args.space.now.line.now c.args.space.now.choices.now (g.D.Guide.says c.args.space.now.guide.now) (numbered_of c.args.space.now.lexicon.now c.args.place.now) (key_meant c.args.from) (key_meant c.in-Some.found.0) c.in-Some.found.1 c.in-Some.ensures.first

pub returns-in-None-clause-first : goal.returns-in-None-clause-first
returns-in-None-clause-first g c =
    node_found c.args.space.now.lexicon.now c.args.space.now.line.now c.args.space.now.choices.now (g.D.Guide.says c.args.space.now.guide.now) (numbered_of c.args.space.now.lexicon.now c.args.place.now) (key_meant c.args.from) c.turn_changed.result c.in-None.ensures.first c.turn_changed.ensures.first

pub returns-in-None-clause-steps : goal.returns-in-None-clause-steps
returns-in-None-clause-steps g c most few =
    let second = c.turn_changed.ensures.steps most few in
    let first = c.in-None.ensures.steps in
    omega (arith, first, second)
