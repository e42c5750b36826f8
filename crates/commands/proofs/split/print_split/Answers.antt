-- The texts of the page, a line each, are its printed answers.
use Rattle.std.proofs.Common.{◌≡◌, ℕ, List, string_bytes, map, ◌++◌, ◌∙◌, ap}
use Rattle.segmentation_definitions.specs.PrintedAnswers.{printed_answers}
use Rattle.commands.specs.Splits.{text_lines}
use Rattle.commands.proofs.SplitRuns.{texts_printed}
use Rattle.commands.proofs.split.print_split.Goals as goal

pub returns : goal.returns
returns g c =
    let p = c.in_ok-page.ensures.ok in
    let rules = c.args.lexicon.now.lexicon.rules in
    let lines : string_bytes c.in_ok-output.output ≡ printed_answers rules 1 p.answers =
    c.in_ok-output.ensures.ok ∙ ap (λ texts. text_lines (map string_bytes texts)) c.as_slice.ensures.value ∙ ap text_lines p.texts
    ∙ texts_printed rules 1 p.answers in
    record {
      ok = record {
        answers = p.answers;
        more = c.in_ok-page.page.more;
        page = rw c.new-choices.ensures at p.page;
        printed = c.in_ok-push_str.ensures.bytes ∙ ap (λ (bytes : List ℕ). bytes ++ c.rest_line.result.now) lines
            ∙ ap (λ (rest : List ℕ). printed_answers rules 1 p.answers ++ rest) c.rest_line.ensures;
      };
    }
