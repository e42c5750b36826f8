-- The lemmas on levels.
use Rattle.phase_automaton.proofs.LevelTrees.{join_keeps, finished_part}
use Rattle.phase_automaton.proofs.level.Level.finished.Goals as goal

pub returns-clause-others : goal.returns-clause-others
returns-clause-others c =
    join_keeps c.args.positions.now c.joined-sequence.new.positions c.args.self c.joined-sequence.result c.joined-sequence.ensures

pub returns-clause-piece : goal.returns-clause-piece
returns-clause-piece c =
    finished_part c.args.positions.now c.joined-sequence.new.positions c.args.self c.joined-sequence.result c.joined-sequence.ensures
    c.chosen.result c.chosen.ensures
