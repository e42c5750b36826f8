-- What was printed, and what the search told then.
use Rattle.reader_session.proofs.page_reply.push_kept_page.Goals as goal

pub returns : goal.returns
returns g c = record {
  ok = record {
    now = c.push_answers.new.search;
    bytes = c.push_answers.new.output.items;
    printed = c.in_ok-answers.ensures.ok;
    stands = c.in_ok-resumption.ensures.resumption;
    told = c.in_ok-resumption.ensures.rest;
  };
}
