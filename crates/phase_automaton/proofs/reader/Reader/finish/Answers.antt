-- The lemma on readers.
use Rattle.phase_automaton.proofs.ReaderTrees.{whole_step}
use Rattle.phase_automaton.proofs.reader.Reader.finish.Goals as goal

pub returns : goal.returns
returns c all level some h =
    whole_step all c.args.positions.now c.finished.new.positions c.args.self c.finished.result level h c.finished.ensures.others
    (λ from until l. c.finished.ensures.piece level from until some l)
