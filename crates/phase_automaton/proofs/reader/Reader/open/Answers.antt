-- The lemma on readers.
use Rattle.std.proofs.Common.{refl}
use Rattle.phase_automaton.proofs.ReaderTrees.{open_step}
use Rattle.phase_automaton.proofs.reader.Reader.open.Goals as goal

pub returns-clause-reader : goal.returns-clause-reader
returns-clause-reader c all positions levels h =
    open_step all positions c.args.self.now (record { met = c.args.self.now.met; outer = c.push.new.self; level = c.empty-self.result })
    levels c.in_ok-push.ensures.items refl c.empty-self.ensures h
