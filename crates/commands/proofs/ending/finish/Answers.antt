-- All bytes are written, or a prefix of them.
use Rattle.std.proofs.Common.{refl}
use Rattle.outside.proofs.ToldLemmas.{GrowsByPrefix-all}
use Rattle.commands.proofs.Runs.{no_fault_is_not_write_fault, no_fault_is_not_read_fault}
use Rattle.commands.proofs.ending.finish.Goals as goal

pub returns-in-Ok : goal.returns-in-Ok
returns-in-Ok g c =
    let ok = c.in-Ok.ensures.ok in record {
      all = λ own. (refl, ok);
      prefix = GrowsByPrefix-all _ _ _ ok;
      write_fault = λ e. absurd (no_fault_is_not_write_fault c.args.status c.requires e);
      read_fault = λ e. absurd (no_fault_is_not_read_fault c.args.status c.requires e);
    }
