-- What follows the step begins where the step and its rule end.
use Rattle.std.proofs.Common.{arith}
use Rattle.std.proofs.lemmas.Grind.{common_steps}
use Rattle.reader_choices.proofs.allowing.rank_after.Goals as goal

pub rank-requires-in-Some : goal.rank-requires-in-Some
rank-requires-in-Some c = grind (arith, common_steps)

pub overflow_add-end-in-Some : goal.overflow_add-end-in-Some
overflow_add-end-in-Some c = grind (arith, common_steps)

pub returns-in-None : goal.returns-in-None
returns-in-None c = grind (arith, common_steps)

pub returns-in-Some : goal.returns-in-Some
returns-in-Some c = grind (arith, common_steps)
