-- The line by its front and its last byte.
use Rattle.reader_session.proofs.LineReplies.{front_kept, line_kept}
use Rattle.reader_session.proofs.session.without_return.Goals as goal

pub returns-then-last-eq13 : goal.returns-then-last-eq13
returns-then-last-eq13 c =
    front_kept c.args.bytes.now c.in-Some.front.now c.in-Some.last.now c.in-Some.ensures.cases.0 c.if-last-eq13.true

pub returns-else-last-eq13 : goal.returns-else-last-eq13
returns-else-last-eq13 c =
    line_kept c.args.bytes.now c.in-Some.front.now c.in-Some.last.now c.in-Some.ensures.cases.0 c.if-last-eq13.false
