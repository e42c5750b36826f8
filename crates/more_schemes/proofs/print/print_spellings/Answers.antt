-- A turn appends the gap and the spelling of the next letter.
use Rattle.std.proofs.Common.{arith}
use Rattle.std.proofs.lemmas.Grind.{common_steps}
use Rattle.more_schemes.proofs.print.print_spellings.Goals as goal

pub loop-letter-init : goal.loop-letter-init
loop-letter-init c = grind (arith, common_steps)

pub loop-letter-preserved : goal.loop-letter-preserved
loop-letter-preserved c = grind (arith, common_steps)

pub returns : goal.returns
returns c = grind (arith, common_steps)
