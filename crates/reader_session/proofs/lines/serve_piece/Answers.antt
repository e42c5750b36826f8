-- Each line that ends within the piece is served after those before it; at the end nothing that is left has a line end.
use Rattle.std.proofs.Common.{◌≡◌, ◌++◌, ◌∙◌, sym, subst}
use Rattle.std.proofs.lemmas.List.Elements.{All-nil}
use Rattle.reader_session.specs.Serving.{HasNoEnd}
use Rattle.reader_session.proofs.ServedPieces.{stopped_here, stopped_at_line, over_at_line, on_after_line}
use Rattle.reader_session.proofs.lines.serve_piece.Goals as goal
use Rattle.list_laws.proofs.Booleans.{on_err}

pub returns-in_err-extend_from_slice-clause-stopped : goal.returns-in_err-extend_from_slice-clause-stopped
returns-in_err-extend_from_slice-clause-stopped g c =
    on_err c.from_residual.result _ (stopped_here _ _ _ _ _ _ _ c.loop-line.invariant.served c.loop-line.invariant.no_end)

pub returns-in_err-extend_from_slice-2-clause-stopped : goal.returns-in_err-extend_from_slice-2-clause-stopped
returns-in_err-extend_from_slice-2-clause-stopped g c =
    on_err c.from_residual-in_err-extend_from_slice-2.result _ (stopped_here _ _ _ _ _ _ _ c.loop-line.invariant.served c.loop-line.invariant.no_end)

pub returns-in_err-serve_line-clause-stopped : goal.returns-in_err-serve_line-clause-stopped
returns-in_err-serve_line-clause-stopped g c =
    let whole : c.deref.result.now ≡ c.loop-line.rest.items ++ c.in-Some.line.now = c.deref.ensures.value ∙ c.in_ok-extend_from_slice.ensures.items in
    on_err c.from_residual-in_err-serve_line.result _
    (stopped_at_line _ _ _ _ _ _ _ c.loop-line.invariant.served c.loop-line.invariant.no_end c.in-Some.line.now c.in-Some.following.now c.deref.result.now
    c.in-Some.ensures.0 c.in-Some.ensures.1 whole _ c.in_err-serve_line.ensures.stopped)

pub returns-in_default-2-clause-ok : goal.returns-in_default-2-clause-ok
returns-in_default-2-clause-ok g c =
    let whole : c.deref.result.now ≡ c.loop-line.rest.items ++ c.in-Some.line.now = c.deref.ensures.value ∙ c.in_ok-extend_from_slice.ensures.items in
    over_at_line _ _ _ _ _ _ _ c.loop-line.invariant.served c.loop-line.invariant.no_end c.in-Some.line.now c.in-Some.following.now c.deref.result.now
    c.in-Some.ensures.0 c.in-Some.ensures.1 whole _ _ _ (rw c.in_default-2.is at c.in_ok-serve_line.ensures.ok)

pub loop-line-preserved : goal.loop-line-preserved
loop-line-preserved g c =
    let whole : c.deref.result.now ≡ c.loop-line.rest.items ++ c.in-Some.line.now = c.deref.ensures.value ∙ c.in_ok-extend_from_slice.ensures.items in
    record {
      served = on_after_line _ _ _ _ _ _ _ c.loop-line.invariant.served c.loop-line.invariant.no_end c.in-Some.line.now c.in-Some.following.now c.deref.result.now
          c.in-Some.ensures.0 c.in-Some.ensures.1 whole _ _ _ c.clear.ensures.items (rw c.in-Open.is at c.in_ok-serve_line.ensures.ok);
      no_end = subst HasNoEnd (sym c.clear.ensures.items) (All-nil _);
      faults = c.in_ok-serve_line.ensures.faults ∙ c.loop-line.invariant.faults;
    }
