-- What was written of the one reply, all or a prefix.
use Rattle.reader_session.proofs.ServedLines.{line_stopped}
use Rattle.reader_session.proofs.lines.serve_line.Goals as goal
use Rattle.list_laws.proofs.Booleans.{on_err}

pub returns-in_err-write_all-clause-stopped : goal.returns-in_err-write_all-clause-stopped
returns-in_err-write_all-clause-stopped g c =
    on_err c.from_residual-in_err-write_all.result _
    (line_stopped _ _ _ _ _ _ _ _ _ c.clear.ensures.items c.deref.ensures.value c.in_ok-after.ensures.ok c.in_err-write_all.ensures.prefix)
