-- What was printed from where the reading stands, and what the search told then, by the lemma of a page.
use Rattle.std.proofs.Common.{ap, sym, subst, ◌∙◌, arith}
use Rattle.segmenter.specs.Searches.{SearchValue, IsStackOf}
use Rattle.segmenter.specs.Skips.{value_of}
use Rattle.answer_printing.specs.Texts.{PrintedWith}
use Rattle.reader_session.specs.PageEnds.{HasKeptPage}
use Rattle.reader_session.proofs.PageReadings.{replies_with_page}
use Rattle.reader_session.proofs.page_reply.push_next_page.Goals as goal

pub go_on-search-requires : goal.go_on-search-requires
go_on-search-requires c =
    let reading = c.args.reading.now in
    record {
      guide = c.requires.reading.guide;
      known = c.requires.reading.chart;
      stack = subst (IsStackOf c.args.lexicon.now reading.line reading.choices) (sym c.replace-resumption.ensures.value) c.requires.reading.stack;
    }

pub push_kept_page-requires : goal.push_kept_page-requires
push_kept_page-requires c = record {
  rules = ap (λ (search : SearchValue). search.searched.lexicon.rules) c.go_on-search.ensures.ok
      ∙ sym (ap (λ (printer : PrintedWith). printer.rules) c.in_ok-printer.ensures.ok ∙ c.requires.texts);
  line = ap (λ (search : SearchValue). search.line.letters) c.go_on-search.ensures.ok
      ∙ sym (ap (λ (printer : PrintedWith). printer.letters) c.in_ok-printer.ensures.ok);
  number = omega arith;
}

pub returns : goal.returns
returns c =
    let reading = c.args.reading.now in
    let from = c.go_on-search.ensures.ok ∙ ap (value_of c.args.lexicon.now reading.line reading.choices) c.replace-resumption.ensures.value in
    let page = subst (λ (search : SearchValue). HasKeptPage search c.min-first.result c.args.count c.args.output.now.items c.push_kept_page.new.output.items
    reading.last.items c.push_kept_page.new.last.items c.in_ok-answers.answers c.in_ok-answers.resumption) from c.in_ok-answers.ensures.ok in
    record {
      ok = replies_with_page c.args.lexicon.now reading c.requires.reading page.now c.min-first.result c.args.count c.in_ok-answers.answers
          c.min-reading.result c.args.output.now.items page.bytes c.push_kept_page.new.output.items c.push_kept_page.new.last c.in_ok-answers.resumption
          page.printed page.stands page.told (omega arith) (omega arith);
    }
