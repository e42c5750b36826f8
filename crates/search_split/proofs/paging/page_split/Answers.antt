-- The texts that were listed have their numbers.
use Rattle.std.proofs.Common.{ap, ◌∙◌}
use Rattle.search_split.specs.PrintedPages.{texts_with_numbers}
use Rattle.search_split.proofs.NumbersPut.{answers_numbered}
use Rattle.search_split.proofs.paging.page_split.Goals as goal

pub returns : goal.returns
returns g c =
    let page = c.in_ok-page.ensures.ok in
    record {
      ok = record {
        answers = page.answers;
        page = page.page;
        texts = c.in_ok-put_numbers.ensures.ok ∙ ap (texts_with_numbers 1) page.texts ∙ answers_numbered c.args.lexicon.now.lexicon.rules 1 page.answers;
      };
    }
