-- The table has as many phases as the machine that is seen.
use Rattle.phase_automaton.proofs.MachineTables.{seen_phases}
use Rattle.phase_automaton.proofs.automaton.Automaton.phases.Goals as goal

pub returns : goal.returns
returns c = seen_phases _ c.args.self.now c.self.view_is
