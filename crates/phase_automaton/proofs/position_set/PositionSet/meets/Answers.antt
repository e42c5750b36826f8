-- A number that is not 0 has a bit.
use Rattle.std.proofs.Common.{arith}
use Rattle.std.proofs.lemmas.Nat.{and_le_l}
use Rattle.phase_automaton.proofs.PositionSetBits.{meets_has_both}
use Rattle.phase_automaton.proofs.position_set.PositionSet.meets.Goals as goal

pub returns : goal.returns
returns c = meets_has_both c.args.self.bits c.args.other.bits (omega (arith, and_le_l c.args.self.bits c.args.other.bits))
