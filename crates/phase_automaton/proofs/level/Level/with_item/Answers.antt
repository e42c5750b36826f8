-- The lemmas on levels.
use Rattle.phase_automaton.proofs.LevelTrees.{join_keeps, item_level}
use Rattle.phase_automaton.proofs.level.Level.with_item.Goals as goal

pub returns-clause-others : goal.returns-clause-others
returns-clause-others c =
    join_keeps c.args.positions.now c.joined.new.positions c.args.self c.joined.result c.joined.ensures

pub returns-clause-level : goal.returns-clause-level
returns-clause-level c =
    item_level c.args.positions.now c.joined.new.positions c.args.self c.joined.result c.joined.ensures c.args.item
