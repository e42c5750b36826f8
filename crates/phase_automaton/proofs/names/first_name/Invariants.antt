-- The bytes so far and the name that the rest begins with are the name.
use Rattle.std.proofs.Common.{◌≡◌, ◌++◌, take, drop}
use Rattle.phase_automaton.specs.Names.{first_name as first_name_of}
use Rattle.phase_automaton.proofs.names.first_name.Given as goal

abbrev pub invariant-loop-at : goal.invariant-loop-at
invariant-loop-at l = take l.at l.text ++ first_name_of (drop l.at l.text) ≡ first_name_of l.text
