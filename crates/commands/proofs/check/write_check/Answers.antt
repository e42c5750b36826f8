-- What was printed is written.
use Rattle.std.proofs.Common.{refl}
use Rattle.commands.specs.Ends.{Something}
use Rattle.commands.proofs.check.write_check.Goals as goal

pub returns-in-Ok : goal.returns-in-Ok
returns-in-Ok g c = Something _ _ (record { done = refl; check = c.in-Ok.ensures.ok }) (rw (← c.as_bytes.ensures.value) c.finish.ensures)
