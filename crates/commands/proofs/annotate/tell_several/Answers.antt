-- The first two answers were printed, and have these keys.
use Rattle.std.proofs.Common.{sym, ap₂}
use Rattle.run_definitions.specs.Ends as ends
use Rattle.commands.specs.declared.status.Status.TheVariants.{Several}
use Rattle.commands.specs.Ends.{Something}
use Rattle.commands.proofs.annotate.tell_several.Goals as goal

pub returns-in-Ok : goal.returns-in-Ok
returns-in-Ok g c =
    let two = c.requires in
    Something (Several c.args.first c.args.second) c.in-Ok.output.items (record {
      first = two.0;
      second = two.1;
      is_first = two.2;
      is_second = two.3;
      printed = c.in-Ok.ensures.ok two.0 two.1 two.2 two.3;
      told = sym (ap₂ ends.Several two.4 two.5);
    }) (rw (← c.as_slice.ensures.value) c.finish.ensures)
