-- At the end one of the lists has no step left.
use Rattle.std.proofs.Common.{◌∙◌, arith}
use Rattle.std.proofs.lemmas.Grind.{common_steps}
use Rattle.derivation.proofs.StepLemmas.{ended}
use Rattle.derivation.proofs.ordering.compare.Goals as goal

pub returns : goal.returns
returns c = c.cmp.ensures ∙ ended c.args.a.now c.args.b.now c.loop-i.i (omega arith) ∙ c.loop-i.invariant

pub returns-then-is_ne : goal.returns-then-is_ne
returns-then-is_ne c = grind (arith, common_steps)

pub loop-i-preserved : goal.loop-i-preserved
loop-i-preserved c = grind (arith, common_steps)
