-- What the session of no line serves is what it serves over the lexicon that it was made with.
use Rattle.std.proofs.Common.{subst, ap}
use Rattle.reader_session.specs.Served.{WroteSession, WroteFront, RepliedToTaken}
use Rattle.reader_session.specs.SessionValues.{SessionValue}
use Rattle.reader_session.proofs.input.serve.Goals as goal

pub serve_lines-requires : goal.serve_lines-requires
serve_lines-requires g c = ap (λ (session : SessionValue). session.state) c.in-Ok.ensures.ok

pub returns-clause-session : goal.returns-clause-session
returns-clause-session g c is_end input old told written =
    subst (λ (session : SessionValue). WroteSession session.searched.lexicon input old (g.O.Sink.written c.serve_lines.new.sink) c.serve_lines.result)
    c.in-Ok.ensures.ok (c.serve_lines.ensures.session is_end input old told written)

pub returns-clause-prefix : goal.returns-clause-prefix
returns-clause-prefix g c input told =
    subst (λ (session : SessionValue). WroteFront session.searched.lexicon input (g.O.Sink.written c.args.sink.now) (g.O.Sink.written c.serve_lines.new.sink))
    c.in-Ok.ensures.ok (c.serve_lines.ensures.prefix input told)

pub returns-clause-replies : goal.returns-clause-replies
returns-clause-replies g c fault input old told written =
    subst (λ (session : SessionValue). RepliedToTaken session.searched.lexicon input old (g.I.Source.left c.serve_lines.new.source) (g.O.Sink.written c.serve_lines.new.sink))
    c.in-Ok.ensures.ok (c.serve_lines.ensures.replies fault input old told written)
