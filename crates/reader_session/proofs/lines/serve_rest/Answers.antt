-- A rest that is not empty is one line.
use Rattle.std.proofs.Common.{◌<◌, List, length, sym, subst, arith, IfOk, OnErr}
use Rattle.std.proofs.lemmas.Bool.Decides.{nat_tests}
use Rattle.lexicon_text_definitions.specs.FileLines.{Line}
use Rattle.reader_session.specs.Serving.{HasServed, HasStopped}
use Rattle.reader_session.proofs.CutLines.{one_line_at_end}
use Rattle.reader_session.proofs.lines.serve_rest.Goals as goal

pub returns-clause-ok : goal.returns-clause-ok
returns-clause-ok g c =
    let some : 0 < length c.args.rest.now = grind (arith, nat_tests) in
    subst (λ (lines : List Line). IfOk c.serve_line.result (HasServed lines c.args.session.now c.serve_line.new.session (g.O.Sink.written c.args.sink.now) (g.O.Sink.written c.serve_line.new.sink)))
    (sym (one_line_at_end c.args.rest.now c.requires some)) c.serve_line.ensures.ok

pub returns-clause-stopped : goal.returns-clause-stopped
returns-clause-stopped g c =
    let some : 0 < length c.args.rest.now = grind (arith, nat_tests) in
    subst (λ (lines : List Line). OnErr c.serve_line.result (HasStopped lines c.args.session.now (g.O.Sink.written c.args.sink.now) (g.O.Sink.written c.serve_line.new.sink)))
    (sym (one_line_at_end c.args.rest.now c.requires some)) c.serve_line.ensures.stopped
