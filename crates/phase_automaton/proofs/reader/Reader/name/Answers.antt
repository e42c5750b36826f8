-- The lemma on readers.
use Rattle.std.proofs.Common.{refl, ◌+◌}
use Rattle.phase_automaton.proofs.ReaderTrees.{name_step}
use Rattle.phase_automaton.proofs.reader.Reader.name.Goals as goal

pub returns-clause-reader : goal.returns-clause-reader
returns-clause-reader c all level levels none h =
    name_step all c.args.positions.now c.with_item-self.new.positions c.args.self.now (record { met = c.args.self.now.met + 1; outer = c.args.self.now.outer; level = c.with_item-self.result })
    c.name-item.result level levels c.requires.met none c.name-item.ensures c.with_item-self.ensures.others refl refl
    (c.with_item-self.ensures.level level) h
