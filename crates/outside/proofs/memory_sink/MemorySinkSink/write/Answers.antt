-- The first bytes are appended, as many as the sink takes at once.
use Rattle.std.proofs.Common.{arith}
use Rattle.std.proofs.lemmas.Grind.{common_steps}
use Rattle.outside.proofs.memory_sink.MemorySinkSink.write.Goals as goal

pub returns-clause-failing : goal.returns-clause-failing
returns-clause-failing c = grind (arith, common_steps)

pub returns-clause-some : goal.returns-clause-some
returns-clause-some c = grind (arith, common_steps)

pub returns-clause-ok : goal.returns-clause-ok
returns-clause-ok c = grind (arith, common_steps)
