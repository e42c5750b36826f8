-- A line that is too long, and an empty one; a text that is to be read is short.
use Rattle.std.proofs.Common.{sym, ◌∙◌, arith}
use Rattle.reader_session.proofs.LineReplies.{long_line, empty_line, short_request, nothing_left}
use Rattle.std.proofs.lemmas.Grind.{common_steps}
use Rattle.reader_session.proofs.session.Session.reply.Goals as goal

pub returns-then-line-gt-MOST_SESSION_LINE_BYTES : goal.returns-then-line-gt-MOST_SESSION_LINE_BYTES
returns-then-line-gt-MOST_SESSION_LINE_BYTES c = record {
  ok = long_line c.args.self.now c.args.line.now c.args.ended c.args.output.now.items c.push_refusal.new.output.items
      c.if-line-gt-MOST_SESSION_LINE_BYTES.true c.in_ok-push_refusal.ensures;
}

pub returns-then-is_empty : goal.returns-then-is_empty
returns-then-is_empty c = record {
  ok = empty_line c.args.self.now c.args.line.now c.args.ended c.args.output.now.items c.if-line-gt-MOST_SESSION_LINE_BYTES.false
      (nothing_left c.text_of_line-text.result.now c.args.line.now c.args.ended (sym c.is_empty.ensures ∙ c.if-is_empty.true) c.text_of_line-text.ensures);
}

pub answer-requires-clause-short : goal.answer-requires-clause-short
answer-requires-clause-short c =
    short_request c.args.line.now c.args.ended c.text_of_line-text.result.now c.in_ok-request.request c.if-line-gt-MOST_SESSION_LINE_BYTES.false
    c.text_of_line-text.ensures c.in_ok-request.ensures.ok

pub returns : goal.returns
returns c = grind (arith, common_steps)
