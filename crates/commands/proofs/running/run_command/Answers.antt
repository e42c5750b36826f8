-- The command ends as its own; one that does not read the source leaves it as it is.
use Rattle.std.proofs.Common.{refl}
use Rattle.commands.specs.Sessions.{Apart, InBatch}
use Rattle.commands.specs.Batches.{NoReplies, WithReplies}
use Rattle.commands.proofs.running.run_command.Goals as goal

pub returns-in-Segment-clause-ran : goal.returns-in-Segment-clause-ran
returns-in-Segment-clause-ran g c = rw c.in-Segment.is (Apart refl c.run_segment.ensures)

pub returns-in-Check-clause-ran : goal.returns-in-Check-clause-ran
returns-in-Check-clause-ran g c = rw c.in-Check.is (Apart refl c.run_check.ensures)

pub returns-in-Build-clause-ran : goal.returns-in-Build-clause-ran
returns-in-Build-clause-ran g c = rw c.in-Build.is (Apart refl c.run_build.ensures)

pub returns-in-Read-clause-ran : goal.returns-in-Read-clause-ran
returns-in-Read-clause-ran g c = rw c.in-Read.is c.run_read.ensures

pub returns-in-Batch-clause-ran : goal.returns-in-Batch-clause-ran
returns-in-Batch-clause-ran g c = rw c.in-Batch.is (elim c.run_batch.ensures [
  | NoReplies ran ↦ Apart refl ran
  | WithReplies r ↦ InBatch _ _ _ _ refl refl r
])

pub returns-in-Demo-clause-ran : goal.returns-in-Demo-clause-ran
returns-in-Demo-clause-ran g c = rw c.in-Demo.is (Apart refl (c.run_demo.ensures _ _ _))

pub returns-in-Convert-clause-ran : goal.returns-in-Convert-clause-ran
returns-in-Convert-clause-ran g c = rw c.in-Convert.is (Apart refl c.run_convert.ensures)

pub returns-in-Join-clause-ran : goal.returns-in-Join-clause-ran
returns-in-Join-clause-ran g c = rw c.in-Join.is (Apart refl c.run_join.ensures)

pub returns-in-Split-clause-ran : goal.returns-in-Split-clause-ran
returns-in-Split-clause-ran g c = rw c.in-Split.is (Apart refl c.run_split.ensures)

pub returns-in-Annotate-clause-ran : goal.returns-in-Annotate-clause-ran
returns-in-Annotate-clause-ran g c = rw c.in-Annotate.is (Apart refl c.run_annotate.ensures)

pub returns-in-Reread-clause-ran : goal.returns-in-Reread-clause-ran
returns-in-Reread-clause-ran g c = rw c.in-Reread.is (Apart refl c.run_reread.ensures)

pub returns-in-Migrate-clause-ran : goal.returns-in-Migrate-clause-ran
returns-in-Migrate-clause-ran g c = rw c.in-Migrate.is (Apart refl c.run_migrate.ensures)
