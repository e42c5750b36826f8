-- The shift tests the bit; a set has sixteen bits.
use Rattle.std.proofs.Common.{arith}
use Rattle.std.proofs.lemmas.Bool.Decides.{nat_tests}
use Rattle.sandhi_rules.proofs.PhaseBits.{bit_tested, no_later_bit}
use Rattle.sandhi_rules.proofs.rule.has_phase.Goals as goal

pub returns-then-phase : goal.returns-then-phase
returns-then-phase c = bit_tested c.args.phases c.args.phase

pub returns-else-phase : goal.returns-else-phase
returns-else-phase c = (
  λ t. absurd (grind (arith, nat_tests)),
  λ h. absurd (no_later_bit c.args.phases c.args.phase (omega arith) c.if-phase.false h),
)
