-- The search that was resumed tells where it stands; or its keys are those of no answer.
use Rattle.reader_session.proofs.resume_reply.stack_at.Goals as goal

pub returns : goal.returns
returns c = record {
  ok = record {
    search = c.in-Ok.search;
    over = c.in-Ok.ensures.over;
    at = c.in-Ok.ensures.at;
    is_last = c.in_ok-last.ensures.ok;
    stands = c.into_resumption.ensures;
  };
}

pub returns-in-Err-NotAnAnswer : goal.returns-in-Err-NotAnAnswer
returns-in-Err-NotAnAnswer c = record { ok = c.in-Err-NotAnAnswer.ensures.not_an_answer c.in-Err-NotAnAnswer.field-0-is }
