-- The lemma on readers.
use Rattle.std.proofs.Common.{refl}
use Rattle.phase_automaton.proofs.ReaderTrees.{new_reader}
use Rattle.phase_automaton.proofs.reader.Reader.new.Goals as goal

pub returns-clause-reader : goal.returns-clause-reader
returns-clause-reader c all =
    new_reader all (record { met = 1; outer = c.new.result; level = c.empty.result }) refl c.new.ensures.items c.empty.ensures
