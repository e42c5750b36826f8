-- Each part of an automaton may be shared.
use denote.Param.Send.{sendable}
use Rattle.std.proofs.Crossing.{crosses}
use Rattle.phase_automaton.proofs.sharing.automata_are_shared.Goals as goal

pub returns : goal.returns
returns c = search (sendable, crosses) depth 60 fits 50000
