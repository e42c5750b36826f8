-- There are so few pairs that all of them are counted.
use Rattle.std.proofs.Common.{arith}
use Rattle.commands.proofs.check.count_forms.Goals as goal

pub returns : goal.returns
returns c = record { ok = omega (arith, c.in_ok-count.ensures.ok, c.requires.pairs, c.requires.few) }
