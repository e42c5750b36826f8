-- There is a first state.
use Rattle.phase_automaton.proofs.MachineTables.{seen_number}
use Rattle.phase_automaton.proofs.automaton.Automaton.start.Goals as goal

pub returns-clause-within : goal.returns-clause-within
returns-clause-within c =
    seen_number _ c.args.self.now c.self.view_is c.numbered.result 0 c.numbered.ensures c.self.invariant.some
