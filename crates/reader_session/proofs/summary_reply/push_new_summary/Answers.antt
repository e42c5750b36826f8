-- The items that the chart gave are printed over the rules of the lexicon; the rest is the lemma of a summary.
use Rattle.std.proofs.Common.{◌≡◌, ◌++◌, ◌∙◌}
use Rattle.session_definitions.specs.PrintedSummaries.{printed_summary}
use Rattle.reader_session.proofs.SummarizedReadings.{replies_with_summary}
use Rattle.reader_session.proofs.summary_reply.push_new_summary.Goals as goal

pub returns : goal.returns
returns c =
    let printed : c.push_summary.new.output.items ≡ c.args.output.now.items ++ printed_summary c.args.lexicon.now.lexicon.rules c.in_ok-items.items.items =
    c.in_ok-push_summary.ensures.ok
    ∙ (λ i. c.args.output.now.items ++ printed_summary (c.rules.ensures.value i) (c.as_slice.ensures.value i)) in
    record {
      ok = replies_with_summary c.args.lexicon.now c.args.reading.now c.requires.reading c.in_ok-items.items c.in_ok-items.ensures.ok c.args.output.now.items
          c.push_summary.new.output.items printed;
    }
