-- The counts are written, which leave the files; or memory was wanting.
use Rattle.std.proofs.Common.{refl, ap}
use Rattle.std.specs.Prelude.{List, ℕ}
use Rattle.run_definitions.specs.Ends as ends
use Rattle.run_definitions.specs.Ends.{outcome_over}
use Rattle.commands.specs.declared.status.Status.TheVariants.{Done}
use Rattle.commands.specs.RunEnds.{Wanting, Printed}
use Rattle.commands.proofs.demo.run_demo.Goals as goal

pub returns-in-Ok : goal.returns-in-Ok
returns-in-Ok g c files failed_reads failed_writes =
    let p = c.in-Ok.ensures.ok in
    Printed (record {
      status = Done;
      output = c.as_bytes.result.now;
      not_usage = λ e. cc (e);
      files = refl;
      failed_writes = refl;
      has = λ told e. record {
        end = ends.Done;
        told = refl;
        is_it = record {
          counts = p.counts;
          are_counts = p.are_counts;
          is = ap (λ (output : List ℕ). outcome_over told output ends.Done) (rw c.as_bytes.ensures.value p.printed);
        };
      };
      finishes = c.finish.ensures;
    })

pub returns-in-Err : goal.returns-in-Err
returns-in-Err g c files failed_reads failed_writes = Wanting refl (record { files = refl; failed_writes = refl; written = refl })
