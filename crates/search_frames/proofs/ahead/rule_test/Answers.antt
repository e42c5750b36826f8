-- What the rule does is told by its w, its phases and its lead.
use Rattle.std.proofs.Common.{arith}
use Rattle.std.proofs.lemmas.Grind.{common_steps}
use Rattle.search_frames.proofs.ahead.rule_test.Goals as goal

pub returns-then-not-begins_with : goal.returns-then-not-begins_with
returns-then-not-begins_with c = grind (arith, common_steps)
