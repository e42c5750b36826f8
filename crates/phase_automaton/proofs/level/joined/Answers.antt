-- The lemma on levels, at the two pieces.
use Rattle.phase_automaton.proofs.LevelTrees.{joined_both}
use Rattle.phase_automaton.proofs.level.joined.Goals as goal

pub returns-in-Some-Some : goal.returns-in-Some-Some
returns-in-Some-Some c =
    let old = c.args.positions.now in
    let new = c.then.new.positions in
    let both = joined_both old new c.in-Some-Some.sequence c.in-Some-Some.item c.then.result c.then.ensures.linked c.then.ensures.piece in
    rw (c.in-Some-Some.is-0, c.in-Some-Some.is-1) both
