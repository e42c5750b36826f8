-- The table has a row for each state.
use Rattle.std.proofs.Common.{arith}
use Rattle.phase_automaton.proofs.MachineTables.{seen_count, seen_machine}
use Rattle.phase_automaton.proofs.automaton.Automaton.states.Goals as goal

pub returns-clause-count : goal.returns-clause-count
returns-clause-count c = let count = seen_count _ c.args.self.now c.self.view_is in omega (arith, count, c.len.ensures, c.self.inside.accepting.ok.0)

pub returns-clause-machine : goal.returns-clause-machine
returns-clause-machine c = seen_machine _ c.args.self.now c.self.view_is c.self.invariant
