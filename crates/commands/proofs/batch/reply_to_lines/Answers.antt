-- All replies were written, or a prefix of those to some first lines.
use Rattle.std.proofs.Common.{refl}
use Rattle.commands.proofs.BatchRuns.{first_of_all}
use Rattle.commands.proofs.batch.reply_to_lines.Goals as goal

pub returns-in-Ok : goal.returns-in-Ok
returns-in-Ok g c = record {
  done = λ own. (refl, c.in-Ok.ensures.ok);
  prefix = first_of_all _ _ _ _ _ _ c.in-Ok.ensures.ok;
  read_fault = λ e. cc (e);
  write_fault = λ e. absurd (cc (e));
}

pub returns-in-Err-Memory : goal.returns-in-Err-Memory
returns-in-Err-Memory g c = record {
  done = λ own. absurd own;
  prefix = c.in-Err-Memory.ensures.prefix;
  read_fault = λ e. cc (e);
  write_fault = λ e. absurd (cc (e));
}
